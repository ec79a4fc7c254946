-- Why the packages that a visit adds are a group, and how the groups are entered by rising rank.
use Rattle.std.proofs.Common.{◌≡◌, ℕ, ◌+◌, ◌<◌, ◌≤◌, ◌⊎◌, List, get_or, sym, ap, ◌∙◌, subst, inl, inr, ⊎_elim, arith}
use Rattle.std.proofs.lemmas.Bool.{cases_lt}
use Rattle.graphs.specs.Records.{PackageRecord, of}
use Rattle.graphs.specs.Searches.{Reach, Marked, Fresh, Grown, Whole, Classified, Mutual, Rising, sorted_record}
use Rattle.graphs.proofs.Grow.{reach_map, reach_join}
use Rattle.graphs.proofs.Whole.{reach_closed, whole_edge}

mutual_turn : {E : ℕ → ℕ → Type 0} {p q : ℕ} → Mutual E p q → Mutual E q p
mutual_turn h = (h.1, h.0)

mutual_join : {E : ℕ → ℕ → Type 0} {p q r : ℕ} → Mutual E p q → Mutual E q r → Mutual E p r
mutual_join h k = (reach_join h.0 k.0, reach_join k.1 h.1)

-- one more group is entered
module _ (E : ℕ → ℕ → Type 0) (r : ℕ) (m o : List ℕ) (c : ℕ) (m' o' : List ℕ) (c' : ℕ)
    (w : Whole E m o c) (w' : Whole E m' o' c') (grown : Grown E r m o c m' o' c') (unseen : get_or m r 0 ≡ 0) (seen : Marked m' r)
    (back_to : (v : ℕ) → Reach (Fresh E m) r v → Reach E v r)
    (rs rs' : List PackageRecord) (g name : ℕ) (s : Classified E (Marked m) rs g)
    (entered : (j : ℕ) → c ≤ j → j < c' → of rs' (get_or o' j 0) ≡ sorted_record name g)
    (others : (v : ℕ) → ((j : ℕ) → c ≤ j → j < c' → get_or o' j 0 ≡ v → ⊥) → of rs' v ≡ of rs v)
    (name_in : (j : ℕ) × (c ≤ j) × (j < c') × (get_or o' j 0 ≡ name))
    (name_least : (j : ℕ) → c ≤ j → j < c' → name ≤ get_or o' j 0) where
  old : (v : ℕ) → Marked m v → of rs' v ≡ of rs v
  old v h = others v (λ j l b at. omega (arith, grown.fresh j l b, ap (λ x. get_or m x 0) at))

  new : (v : ℕ) → get_or m v 0 ≡ 0 → Marked m' v → of rs' v ≡ sorted_record name g
  new v z h = let l = grown.listed v z h in subst (λ x. of rs' x ≡ sorted_record name g) l.3 (entered l.0 l.1 l.2)

  new_mutual : (v : ℕ) → get_or m v 0 ≡ 0 → Marked m' v → Mutual E r v
  new_mutual v z h =
      let l = grown.listed v z h in
      let p : Reach (Fresh E m) r v = subst (λ x. Reach (Fresh E m) r x) l.3 (grown.reached l.0 l.1 l.2) in
      (reach_map (λ x y f. f.0) p, back_to v p)

  ways : (v : ℕ) → Marked m' v → Marked m v ⊎ (get_or m v 0 ≡ 0)
  ways v h = ⊎_elim (λ lt. inl lt) (λ ge. inr (omega arith)) (cases_lt 0 (get_or m v 0))

  old_reach : (p q : ℕ) → Marked m p → Reach E p q → Marked m q
  old_reach p q h t = reach_closed m (whole_edge E m o c w) t h

  new_reach : (q : ℕ) → Mutual E r q → (get_or m q 0 ≡ 0) × Marked m' q
  new_reach q h = (
    ⊎_elim (λ lt. absurd (omega (arith, old_reach q r lt h.1))) (λ ge. omega arith) (cases_lt 0 (get_or m q 0)),
    reach_closed m' (whole_edge E m' o' c' w') h.0 seen,
  )

  name_new : Mutual E r name
  name_new =
      let l = name_in in
      new_mutual name (subst (λ x. get_or m x 0 ≡ 0) l.3 (grown.fresh l.0 l.1 l.2)) (subst (λ x. Marked m' x) l.3 (grown.marked l.0 l.1 l.2))

  more_member : (p : ℕ) → Marked m' p → Mutual E p (of rs' p).group
  more_member p h =
      ⊎_elim
      (λ was. subst (λ x. Mutual E p x.group) (sym (old p was)) (s.member p was))
      (λ z. subst (λ x. Mutual E p x.group) (sym (new p z h)) (mutual_join (mutual_turn (new_mutual p z h)) name_new))
      (ways p h)

  more_least : (p q : ℕ) → Marked m' p → Mutual E p q → (of rs' p).group ≤ q
  more_least p q h t =
      ⊎_elim
      (λ was. subst (λ x. x.group ≤ q) (sym (old p was)) (s.least p q was t))
      (λ z.
      let k = new_reach q (mutual_join (new_mutual p z h) t) in
      let l = grown.listed q k.0 k.1 in
      subst (λ x. x.group ≤ q) (sym (new p z h)) (subst (λ x. name ≤ x) l.3 (name_least l.0 l.1 l.2)))
      (ways p h)

  rank_old : (v : ℕ) → Marked m v → (of rs' v).rank ≡ (of rs v).rank
  rank_old v h = ap (λ x. x.rank) (old v h)

  rank_new : (v : ℕ) → get_or m v 0 ≡ 0 → Marked m' v → (of rs' v).rank ≡ g
  rank_new v z h = ap (λ x. x.rank) (new v z h)

  more_same : (p q : ℕ) → Marked m' p → Mutual E p q → (of rs' p).rank ≡ (of rs' q).rank
  more_same p q h t =
      ⊎_elim
      (λ was. rank_old p was ∙ s.same p q was t ∙ sym (rank_old q (old_reach p q was t.0)))
      (λ z. let k = new_reach q (mutual_join (new_mutual p z h) t) in rank_new p z h ∙ sym (rank_new q k.0 k.1))
      (ways p h)

  more_apart : (p q : ℕ) → Marked m' p → Marked m' q → (of rs' p).rank ≡ (of rs' q).rank → Mutual E p q
  more_apart p q h k e =
      ⊎_elim
      (λ was.
      ⊎_elim
      (λ was₂. s.apart p q was was₂ (sym (rank_old p was) ∙ e ∙ rank_old q was₂))
      (λ z₂. absurd (omega (arith, e, rank_old p was, s.below p was, rank_new q z₂ k)))
      (ways q k))
      (λ z.
      ⊎_elim
      (λ was₂. absurd (omega (arith, e, rank_old q was₂, s.below q was₂, rank_new p z h)))
      (λ z₂. mutual_join (mutual_turn (new_mutual p z h)) (new_mutual q z₂ k))
      (ways q k))
      (ways p h)

  more_falls : (p q : ℕ) → Marked m' p → E p q → (of rs' q).rank ≤ (of rs' p).rank
  more_falls p q h e =
      ⊎_elim
      (λ was. omega (arith, rank_old p was, rank_old q (whole_edge E m o c w p q was e), s.falls p q was e))
      (λ z.
      let k = whole_edge E m' o' c' w' p q h e in
      ⊎_elim
      (λ was₂. omega (arith, rank_new p z h, rank_old q was₂, s.below q was₂))
      (λ z₂. omega (arith, rank_new p z h, rank_new q z₂ k))
      (ways q k))
      (ways p h)

  pub classified_more : Classified E (Marked m') rs' (g + 1)
  classified_more = record {
    member = more_member;
    least = more_least;
    below = λ p h.
        ⊎_elim
        (λ was. omega (arith, rank_old p was, s.below p was))
        (λ z. omega (arith, rank_new p z h))
        (ways p h);
    used = λ k h.
        ⊎_elim
        (λ lt. let u = s.used k lt in (u.0, grown.stays u.0 u.1, rank_old u.0 u.1 ∙ u.2))
        (λ (ge : g ≤ k). (r, seen, rank_new r unseen seen ∙ omega arith))
        (cases_lt k g);
    same = more_same;
    apart = more_apart;
    falls = more_falls;
    waveless = λ p h.
        ⊎_elim
        (λ was. ap (λ x. x.wave) (old p was) ∙ s.waveless p was)
        (λ z. ap (λ x. x.wave) (new p z h))
        (ways p h);
  }

  early : (i : ℕ) → i < c → (of rs' (get_or o' i 0)).rank ≡ (of rs (get_or o i 0)).rank
  early i h = ap (λ x. (of rs' x).rank) (grown.kept i h) ∙ rank_old (get_or o i 0) (w.marked i h)

  late : (j : ℕ) → c ≤ j → j < c' → (of rs' (get_or o' j 0)).rank ≡ g
  late j l h = ap (λ x. x.rank) (entered j l h)

  pub rising_more : Rising rs o c → Rising rs' o' c'
  rising_more up i j l h =
      ⊎_elim
      (λ (lt : j < c). omega (arith, early j lt, early i (omega (arith, l, lt)), up i j l lt))
      (λ (ge : c ≤ j).
      ⊎_elim
      (λ (lt : i < c). omega (arith, early i lt, late j ge h, s.below (get_or o i 0) (w.marked i lt)))
      (λ (ge₂ : c ≤ i). omega (arith, late i ge₂ (omega (arith, l, h)), late j ge h))
      (cases_lt i c))
      (cases_lt j c)

pub classified_none : (E : ℕ → ℕ → Type 0) (m : List ℕ) (rs : List PackageRecord) → ((v : ℕ) → get_or m v 0 ≡ 0) → Classified E (Marked m) rs 0
classified_none E m rs zeros = record {
  member = λ p h. absurd (omega (arith, zeros p));
  least = λ p q h t. absurd (omega (arith, zeros p));
  below = λ p h. absurd (omega (arith, zeros p));
  used = λ k h. absurd (omega arith);
  same = λ p q h t. absurd (omega (arith, zeros p));
  apart = λ p q h k e. absurd (omega (arith, zeros p));
  falls = λ p q h e. absurd (omega (arith, zeros p));
  waveless = λ p h. absurd (omega (arith, zeros p));
}

-- the same sets of packages are sorted alike
pub classified_as : (E : ℕ → ℕ → Type 0) (S U : ℕ → Type 0) (rs : List PackageRecord) (g : ℕ) → ((v : ℕ) → S v → U v) → ((v : ℕ) → U v → S v) → Classified E S rs g → Classified E U rs g
classified_as E S U rs g to from s = record {
  member = λ p h. s.member p (from p h);
  least = λ p q h t. s.least p q (from p h) t;
  below = λ p h. s.below p (from p h);
  used = λ k h. let u = s.used k h in (u.0, to u.0 u.1, u.2);
  same = λ p q h t. s.same p q (from p h) t;
  apart = λ p q h k e. s.apart p q (from p h) (from q k) e;
  falls = λ p q h e. s.falls p q (from p h) e;
  waveless = λ p h. s.waveless p (from p h);
}
