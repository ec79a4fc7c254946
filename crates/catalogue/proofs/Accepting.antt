-- What an accepted call has met, and that every call leaves a sound meaning.
use Rattle.std.proofs.Common.{◌≡◌, ℕ, ◌<◌, Bool, true, false, cond, ◌||◌, eqb, [], ◌∷◌, Ok, Err, Result, sym, refl, ap, ◌∙◌, arith, length-append}
use Rattle.std.proofs.ByRecursion.{All-push, all_kept_by}
use Rattle.std.proofs.lemmas.List.Filters.{length-filter_both}
use Rattle.std.proofs.lemmas.Bool.{eqb-false, leb-false, false≢true}
use Rattle.labels.specs.Algebra.{Ops, Exact}
use Rattle.paths.specs.Arcs.{arc, between, elsewhere}
use Rattle.catalogue.specs.Meanings.{Meaning, ArcOk, Sound}
use Rattle.catalogue.specs.Calls.{outside, is_none, admit_answer, admitted, withdrawn}

-- a refusal is no acceptance
pub err_ok : {A : Type 0} (k : ℕ) (v : A) → Err k ≡ Ok v → ⊥
err_ok k v e = let z : ◌≡◌ {A = ℕ} 0 1 = cc in omega arith

module _ {L : Type 0} (o : Ops L) where
  pub not_none : Exact o → (l : L) → is_none o l ≡ false → l ≡ o.none → ⊥
  not_none x l f e = false≢true (sym f ∙ ap (λ k. o.same k o.none) e ∙ x.full o.none)

  -- what an accepted `admit` has met
  pub record Admits (m : Meaning L) (f t : ℕ) (l : L) : Type 0 where
    pub from_in : f < m.n
    pub to_in : t < m.n
    pub apart : f ≡ t → ⊥
    pub labelled : is_none o l ≡ false
    pub room : 0 < m.places

  pub admits : (m : Meaning L) (f t : ℕ) (l : L) → admit_answer o m f t l ≡ Ok tt → Admits m f t l
  admits m f t l e = go m.sealed (outside m f) (outside m t) (eqb f t) (is_none o l) (eqb m.places 0) refl refl refl refl refl e
    where
      go : (a b c d x y : Bool) → outside m f ≡ b → outside m t ≡ c → eqb f t ≡ d → is_none o l ≡ x → eqb m.places 0 ≡ y
          → ◌≡◌ {A = Result (Unit {0}) ℕ} (cond a (Err 5) (cond (b || c) (Err 6) (cond d (Err 7) (cond x (Err 4) (cond y (Err 8) (Ok tt)))))) (Ok tt) → Admits m f t l
      go true b c d x y hb hc hd hx hy h = absurd (err_ok 5 tt h)
      go false true c d x y hb hc hd hx hy h = absurd (err_ok 6 tt h)
      go false false true d x y hb hc hd hx hy h = absurd (err_ok 6 tt h)
      go false false false true x y hb hc hd hx hy h = absurd (err_ok 7 tt h)
      go false false false false true y hb hc hd hx hy h = absurd (err_ok 4 tt h)
      go false false false false false true hb hc hd hx hy h = absurd (err_ok 8 tt h)
      go false false false false false false hb hc hd hx hy h =
          let some = eqb-false m.places 0 hy in
          record { from_in = leb-false m.n f hb; to_in = leb-false m.n t hc; apart = eqb-false f t hd; labelled = hx; room = omega arith }

  pub admitted_sound : Exact o → (m : Meaning L) (f t : ℕ) (l : L) → Sound o m → Admits m f t l → Sound o (admitted m f t l)
  admitted_sound x m f t l s a =
      let long = length-append m.stock (arc f t l ∷ []) in
      let room = a.room in
      let fit = s.room in
      record {
        some = s.some;
        most = s.most;
        arcs = All-push (ArcOk o m.n) m.stock (arc f t l) s.arcs (record { from_in = a.from_in; to_in = a.to_in; apart = a.apart; labelled = not_none x l a.labelled });
        room = omega arith;
        inside = s.inside;
      }

  pub withdrawn_sound : (m : Meaning L) (f t : ℕ) → Sound o m → Sound o (withdrawn m f t)
  withdrawn_sound m f t s =
      let both = length-filter_both (between f t) (elsewhere f t) (λ _. refl) m.stock in
      let fit = s.room in
      record {
        some = s.some;
        most = s.most;
        arcs = all_kept_by (elsewhere f t) (ArcOk o m.n) m.stock s.arcs;
        room = omega arith;
        inside = s.inside;
      }
