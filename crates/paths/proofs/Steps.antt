-- L(m + 1) from L(m).
use Rattle.std.proofs.Common.{◌≡◌, ℕ, zero, suc, ◌<◌, ◌≤◌, Bool, true, false, cond, eqb, List, [], ◌∷◌, map, sym, refl, ap, ◌∙◌, ap₂}
use native.Mathlib.Decide.{le_ind}
use Rattle.labels.specs.Algebra.{Ops, Laws}
use Rattle.paths.specs.Chains.{Arc, Mem, join_over, chains, chains_upto, label_of, L}
use Rattle.paths.specs.Tables.{before}
use Rattle.paths.proofs.Joins.{none_join, over_append, over_cong, over_join, extend_over, over_map, over_flat_map}

-- the join over the chains of exactly m arcs
abbrev pub just : {K : Type 0} → Ops K → List (Arc K) → ℕ → ℕ → ℕ → K
just o arcs m i j = join_over o (label_of o) (chains arcs m i j)

-- whole on the diagonal
abbrev pub unit : {K : Type 0} → Ops K → ℕ → ℕ → K
unit o i j = cond (eqb i j) o.whole o.none

-- nothing, or a chain of 1 to m arcs
abbrev pub stay : {K : Type 0} → Ops K → List (Arc K) → ℕ → ℕ → ℕ → K
stay o arcs m p q = o.join (unit o p q) (L o arcs m p q)

module _ {K : Type 0} (o : Ops K) (laws : Laws o) (arcs : List (Arc K)) where
  over_one : (b : Bool) → join_over o (label_of o) (cond b ([] ∷ []) []) ≡ cond b o.whole o.none
  over_one true = none_join o laws o.whole
  over_one false = refl

  pub just_zero : (i j : ℕ) → just o arcs 0 i j ≡ unit o i j
  just_zero i j = over_one (eqb i j)

  one_arc : (a : Arc K) (cs : List (List (Arc K))) (b : Bool)
      → join_over o (label_of o) (cond b (map (λ c. a ∷ c) cs) []) ≡ cond b (o.extend a.label (join_over o (label_of o) cs)) o.none
  one_arc a cs true = over_map o laws (label_of o) (λ c. a ∷ c) cs ∙ sym (extend_over o laws a.label (label_of o) cs)
  one_arc a cs false = refl

  pub just_suc : (m i j : ℕ) → just o arcs (suc m) i j ≡ before o arcs (just o arcs m) i j
  just_suc m i j =
      over_flat_map o laws (label_of o) (λ a. cond (eqb a.from i) (map (λ c. a ∷ c) (chains arcs m a.to j)) []) arcs
      ∙ over_cong o laws _ _ arcs (λ a _. one_arc a (chains arcs m a.to j) (eqb a.from i))

  pub before_cong : (X Y : ℕ → ℕ → K) (i j : ℕ) → ((a : Arc K) → Mem a arcs → X a.to j ≡ Y a.to j) → before o arcs X i j ≡ before o arcs Y i j
  before_cong X Y i j h = over_cong o laws _ _ arcs (λ a m. ap (λ x. cond (eqb a.from i) (o.extend a.label x) o.none) (h a m))

  spread : (b : Bool) (l x y : K) → cond b (o.extend l (o.join x y)) o.none ≡ o.join (cond b (o.extend l x) o.none) (cond b (o.extend l y) o.none)
  spread true l x y = laws.spread_left l x y
  spread false l x y = sym (laws.join_none o.none)

  pub before_join : (X Y : ℕ → ℕ → K) (i j : ℕ) → before o arcs (λ p q. o.join (X p q) (Y p q)) i j ≡ o.join (before o arcs X i j) (before o arcs Y i j)
  before_join X Y i j =
      over_cong o laws _ _ arcs (λ a _. spread (eqb a.from i) a.label (X a.to j) (Y a.to j))
      ∙ over_join o laws _ _ arcs

  pub L_suc : (m i j : ℕ) → L o arcs (suc m) i j ≡ o.join (L o arcs m i j) (just o arcs (suc m) i j)
  L_suc m i j = over_append o laws (label_of o) (chains_upto arcs m i j) (chains arcs (suc m) i j)

  -- a chain of 1 to m + 1 arcs is an arc, and then nothing or a chain of 1 to m arcs
  pub L_step : (m i j : ℕ) → L o arcs (suc m) i j ≡ before o arcs (stay o arcs m) i j
  L_step zero i j =
      just_suc 0 i j
      ∙ before_cong (just o arcs 0) (stay o arcs 0) i j (λ a _. just_zero a.to j ∙ sym (none_join o laws (unit o a.to j)))
  L_step (suc m) i j =
      L_suc (suc m) i j
      ∙ ap₂ o.join (L_step m i j) (just_suc (suc m) i j)
      ∙ sym (before_join (stay o arcs m) (just o arcs (suc m)) i j)
      ∙ before_cong (λ p q. o.join (stay o arcs m p q) (just o arcs (suc m) p q)) (stay o arcs (suc m)) i j (λ a _. laws.join_assoc (unit o a.to j) (L o arcs m a.to j) (just o arcs (suc m) a.to j) ∙ ap (o.join (unit o a.to j)) (sym (L_suc m a.to j)))

  -- once a round changes nothing, no later one does
  module _ (n : ℕ) (ends : (a : Arc K) → Mem a arcs → a.to < n) (m : ℕ)
      (still : (i j : ℕ) → i < n → j < n → L o arcs (suc m) i j ≡ L o arcs m i j) where
    next : (k : ℕ) → ((i j : ℕ) → i < n → j < n → L o arcs k i j ≡ L o arcs m i j) → (i j : ℕ) → i < n → j < n → L o arcs (suc k) i j ≡ L o arcs m i j
    next k same i j hi hj =
        L_step k i j
        ∙ before_cong (stay o arcs k) (stay o arcs m) i j (λ a h. ap (o.join (unit o a.to j)) (same a.to j (ends a h) hj))
        ∙ sym (L_step m i j) ∙ still i j hi hj

    pub settled : (k : ℕ) → m ≤ k → (i j : ℕ) → i < n → j < n → L o arcs k i j ≡ L o arcs m i j
    settled k h = le_ind (λ q. (i j : ℕ) → i < n → j < n → L o arcs q i j ≡ L o arcs m i j) (λ i j _ _. refl) (λ q _ same. next q same) k h
