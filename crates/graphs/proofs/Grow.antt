-- How a search grows: nothing, one package after another, and a package once its arcs are walked.
use Rattle.std.proofs.Common.{◌≡◌, ℕ, ◌+◌, ◌<◌, ◌≤◌, List, length, get_or, set, sym, refl, ap, ◌∙◌, subst, inl, inr, ⊎_elim, arith}
use Rattle.std.proofs.lemmas.List.{get_or-set_same, get_or-set_other}
use Rattle.std.proofs.lemmas.Bool.{cases_lt, cases_eq}
use Rattle.graphs.specs.Searches.{Reach, here, step, Marked, Fresh, Run, Closed, Grown, Spread}
use Rattle.graphs.proofs.White.{white_mark}

pub reach_map : {D E : ℕ → ℕ → Type 0} {p q : ℕ} → ((a b : ℕ) → D a b → E a b) → Reach D p q → Reach E p q
reach_map f here = here
reach_map f (step {p} {q} d r) = step (f p q d) (reach_map f r)

pub reach_join : {E : ℕ → ℕ → Type 0} {p q r : ℕ} → Reach E p q → Reach E q r → Reach E p r
reach_join here s = s
reach_join (step e r) s = step e (reach_join r s)

pub none : (E : ℕ → ℕ → Type 0) (p : ℕ) (m o : List ℕ) (c : ℕ) → Grown E p m o c m o c
none E p m o c = record {
  more = omega arith;
  tally = refl;
  kept = λ k h. refl;
  stays = λ v h. h;
  listed = λ v z h. absurd (omega arith);
  fresh = λ k l h. absurd (omega arith);
  marked = λ k l h. absurd (omega arith);
  reached = λ k l h. absurd (omega arith);
  runs = λ k l h. absurd (omega arith);
}

-- a run looks at no place above its own
pub run_kept : (E : ℕ → ℕ → Type 0) (o o' : List ℕ) (k : ℕ) → ((j : ℕ) → j ≤ k → get_or o' j 0 ≡ get_or o j 0) → Run E o k → Run E o' k
run_kept E o o' k same run = record {
  low = run.low;
  low_le = run.low_le;
  reaches = λ j l h. rw (same k (omega arith), same j h) (run.reaches j l h);
  apart = λ i j l h g e.
      run.apart i j l h g (subst (λ x. E x (get_or o j 0)) (same i (omega (arith, run.low_le))) (subst (λ x. E (get_or o' i 0) x) (same j g) e));
}

unseen_before : (m m' : List ℕ) → ((v : ℕ) → Marked m v → Marked m' v) → (v : ℕ) → get_or m' v 0 ≡ 0 → get_or m v 0 ≡ 0
unseen_before m m' stays v z = ⊎_elim (λ h. absurd (omega (arith, stays v h))) (λ h. omega arith) (cases_lt 0 (get_or m v 0))

-- what a visit of the target of an arc adds
module _ {E : ℕ → ℕ → Type 0} {p t : ℕ} {m o : List ℕ} {c : ℕ} {m₁ o₁ : List ℕ} {c₁ : ℕ} {m₂ o₂ : List ℕ} {c₂ : ℕ}
    (a : Grown E p m o c m₁ o₁ c₁) (arc : E p t) (unseen : get_or m₁ t 0 ≡ 0) (b : Grown E t m₁ o₁ c₁ m₂ o₂ c₂) where
  before : (v : ℕ) → get_or m₁ v 0 ≡ 0 → get_or m v 0 ≡ 0
  before = unseen_before m m₁ a.stays

  then_listed : (v : ℕ) → get_or m v 0 ≡ 0 → Marked m₂ v → (k : ℕ) × (c ≤ k) × (k < c₂) × (get_or o₂ k 0 ≡ v)
  then_listed v z h =
      ⊎_elim
      (λ was. let l = a.listed v z was in (l.0, l.1, omega (arith, b.more, l.2), b.kept l.0 l.2 ∙ l.3))
      (λ was. let l = b.listed v (omega arith) h in (l.0, omega (arith, a.more, l.1), l.2, l.3))
      (cases_lt 0 (get_or m₁ v 0))

  pub grown_then : Grown E p m o c m₂ o₂ c₂
  grown_then = record {
    more = omega (arith, a.more, b.more);
    tally = omega (arith, a.tally, b.tally);
    kept = λ k h. b.kept k (omega (arith, a.more)) ∙ a.kept k h;
    stays = λ v h. b.stays v (a.stays v h);
    listed = then_listed;
    fresh = λ k l h.
        ⊎_elim
        (λ lt. rw (b.kept k lt) (a.fresh k l lt))
        (λ ge. before (get_or o₂ k 0) (b.fresh k ge h))
        (cases_lt k c₁);
    marked = λ k l h.
        ⊎_elim
        (λ lt. rw (b.kept k lt) (b.stays (get_or o₁ k 0) (a.marked k l lt)))
        (λ ge. b.marked k ge h)
        (cases_lt k c₁);
    reached = λ k l h.
        ⊎_elim
        (λ lt. rw (b.kept k lt) (a.reached k l lt))
        (λ ge. step (arc, before t unseen) (reach_map (λ x y f. (f.0, before y f.1)) (b.reached k ge h)))
        (cases_lt k c₁);
    runs = λ k l h.
        ⊎_elim
        (λ lt. run_kept E o₁ o₂ k (λ j g. b.kept j (omega arith)) (a.runs k l lt))
        (λ ge. b.runs k ge h)
        (cases_lt k c₁);
  }

pub mark_stays : (m : List ℕ) (p : ℕ) → get_or m p 0 ≡ 0 → (v : ℕ) → Marked m v → Marked (set m p 1) v
mark_stays m p unseen v h =
    ⊎_elim (λ e. absurd (omega (arith, ap (λ x. get_or m x 0) e))) (λ ne. rw (get_or-set_other m p v 1 0 ne) h) (cases_eq v p)

mark_before : (m : List ℕ) (p : ℕ) → get_or m p 0 ≡ 0 → (v : ℕ) → get_or (set m p 1) v 0 ≡ 0 → get_or m v 0 ≡ 0
mark_before m p unseen = unseen_before m (set m p 1) (mark_stays m p unseen)

-- a package whose arcs are walked is left
module _ (E : ℕ → ℕ → Type 0) (p : ℕ) (m o : List ℕ) (c : ℕ) (m₂ o₂ : List ℕ) (c₂ : ℕ)
    (inside : p < length m) (unseen : get_or m p 0 ≡ 0) (room : c₂ < length o₂)
    (closed : Closed E m o c) (a : Grown E p (set m p 1) o c m₂ o₂ c₂) where
  at_end : get_or (set o₂ c₂ p) c₂ 0 ≡ p
  at_end = get_or-set_same o₂ c₂ p 0 room

  below_end : (k : ℕ) → k < c₂ → get_or (set o₂ c₂ p) k 0 ≡ get_or o₂ k 0
  below_end k h = get_or-set_other o₂ c₂ k p 0 (λ e. omega arith)

  left_listed : (v : ℕ) → get_or m v 0 ≡ 0 → Marked m₂ v → (k : ℕ) × (c ≤ k) × (k < c₂ + 1) × (get_or (set o₂ c₂ p) k 0 ≡ v)
  left_listed v z h =
      ⊎_elim
      (λ e. (c₂, a.more, omega arith, at_end ∙ sym e))
      (λ ne.
      let l = a.listed v (rw (get_or-set_other m p v 1 0 ne) z) h in
      (l.0, l.1, omega (arith, l.2), below_end l.0 l.2 ∙ l.3))
      (cases_eq v p)

  left_fresh : (k : ℕ) → c ≤ k → k < c₂ + 1 → get_or m (get_or (set o₂ c₂ p) k 0) 0 ≡ 0
  left_fresh k l h =
      ⊎_elim
      (λ lt. rw (below_end k lt) (mark_before m p unseen (get_or o₂ k 0) (a.fresh k l lt)))
      (λ ge. let e : k ≡ c₂ = omega arith in rw (e, at_end) unseen)
      (cases_lt k c₂)

  left_reached : (k : ℕ) → c ≤ k → k < c₂ + 1 → Reach (Fresh E m) p (get_or (set o₂ c₂ p) k 0)
  left_reached k l h =
      ⊎_elim
      (λ lt. rw (below_end k lt) (reach_map (λ x y f. (f.0, mark_before m p unseen y f.1)) (a.reached k l lt)))
      (λ ge. let e : k ≡ c₂ = omega arith in rw (e, at_end) here)
      (cases_lt k c₂)

  last_run : Run E (set o₂ c₂ p) c₂
  last_run = record {
    low = c;
    low_le = a.more;
    reaches = λ j l h. rw at_end (reach_map (λ x y f. f.0) (left_reached j l (omega arith)));
    apart = λ i j l h g e.
        let was : get_or (set o₂ c₂ p) i 0 ≡ get_or o i 0 = below_end i (omega (arith, a.more)) ∙ a.kept i l in
        let target : Marked m (get_or (set o₂ c₂ p) j 0) = closed i (get_or (set o₂ c₂ p) j 0) l (subst (λ x. E x (get_or (set o₂ c₂ p) j 0)) was e) in
        omega (arith, target, left_fresh j h (omega arith));
  }

  grown_left : Grown E p m o c m₂ (set o₂ c₂ p) (c₂ + 1)
  grown_left = record {
    more = omega (arith, a.more);
    tally = omega (arith, a.tally, white_mark m p inside unseen);
    kept = λ k h. below_end k (omega (arith, a.more)) ∙ a.kept k h;
    stays = λ v h. a.stays v (mark_stays m p unseen v h);
    listed = left_listed;
    fresh = left_fresh;
    marked = λ k l h.
        ⊎_elim
        (λ lt. rw (below_end k lt) (a.marked k l lt))
        (λ (ge : c₂ ≤ k). let e : k ≡ c₂ = omega (arith, ge, h) in
        rw (e, at_end) (a.stays p (rw (get_or-set_same m p 1 0 inside) (omega arith))))
        (cases_lt k c₂);
    reached = left_reached;
    runs = λ k l h.
        ⊎_elim
        (λ lt. run_kept E o₂ (set o₂ c₂ p) k (λ j g. below_end j (omega arith)) (a.runs k l lt))
        (λ (ge : c₂ ≤ k). let e : k ≡ c₂ = omega (arith, ge, h) in rw e last_run)
        (cases_lt k c₂);
  }

  closed_left : Closed E m₂ o₂ c₂ → ((q : ℕ) → E p q → Marked m₂ q) → Closed E m₂ (set o₂ c₂ p) (c₂ + 1)
  closed_left inner own k q h e =
      ⊎_elim
      (λ lt. inner k q lt (subst (λ x. E x q) (below_end k lt) e))
      (λ ge. let at : k ≡ c₂ = omega arith in
      own q (subst (λ x. E x q) at_end (subst (λ i. E (get_or (set o₂ c₂ p) i 0) q) at e)))
      (cases_lt k c₂)

-- the white-path theorem
module _ (E : ℕ → ℕ → Type 0) (m o : List ℕ) (c : ℕ) (m' o' : List ℕ) (c' : ℕ) (p : ℕ) (g : Grown E p m o c m' o' c') (closed : Closed E m' o' c') where
  white_path : {x v : ℕ} → get_or m x 0 ≡ 0 → Marked m' x → Reach (Fresh E m) x v → Marked m' v
  white_path z h here = h
  white_path z h (step {p = x} {q = q} s r) =
      let l = g.listed x z h in
      white_path s.1 (closed l.0 q l.2 (subst (λ y. E y q) (sym l.3) s.0)) r

  spread : get_or m p 0 ≡ 0 → Marked m' p → Spread E p m m'
  spread unseen seen = (
    λ v. ⊎_elim (λ h. g.stays v h) (λ r. white_path unseen seen r),
    λ v h. ⊎_elim (λ was. inl was) (λ ge. let l = g.listed v (omega arith) h in inr (subst (λ y. Reach (Fresh E m) p y) l.3 (g.reached l.0 l.1 l.2))) (cases_lt 0 (get_or m v 0)),
  )

-- what a visit comes to, once the edges of its package are walked and it is left
pub visited : {E : ℕ → ℕ → Type 0} {p : ℕ} {m o : List ℕ} {c : ℕ} {m₂ o₂ : List ℕ} {c₂ : ℕ}
    → p < length m → get_or m p 0 ≡ 0 → c₂ < length o₂ → Closed E m o c
    → Grown E p (set m p 1) o c m₂ o₂ c₂ → Closed E m₂ o₂ c₂ → ((q : ℕ) → E p q → Marked m₂ q)
    → Grown E p m o c m₂ (set o₂ c₂ p) (c₂ + 1) × Closed E m₂ (set o₂ c₂ p) (c₂ + 1) × Marked m₂ p × Spread E p m m₂
visited {E} {p} {m} {o} {c} {m₂} {o₂} {c₂} inside unseen room closed grown inner own =
    let grows = grown_left E p m o c m₂ o₂ c₂ inside unseen room closed grown in
    let closes = closed_left E p m o c m₂ o₂ c₂ inside unseen room closed grown inner own in
    let seen : Marked m₂ p = grown.stays p (rw (get_or-set_same m p 1 0 inside) (omega arith)) in
    (grows, closes, seen, spread E m o c m₂ (set o₂ c₂ p) (c₂ + 1) p grows closes unseen seen)
