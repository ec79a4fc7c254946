-- A round, and when the rounds end.
use Rattle.std.proofs.Common.{◌≡◌, ℕ, suc, ◌+◌, ◌*◌, ◌/◌, ◌%◌, ◌<◌, ◌≤◌, Bool, true, false, cond, eqb, List, [], ◌∷◌, ◌++◌, length, get_or, Some, sym, refl, ap, ◌∙◌, subst, ap₂, add-one, arith}
use native.Mathlib.Decide.{dec_lt}
use Rattle.std.proofs.lemmas.Nat.{mul-add-lt, div_below, mod_below, div-add-mod'}
use Rattle.labels.specs.Algebra.{Ops, Laws, Absorbs}
use Rattle.paths.specs.declared.arc.Arc.{Arc}
use Rattle.paths.specs.Chains.{Mem, L, Still}
use Rattle.paths.specs.Tables.{cell, Shows, LeastStill, before}
use Rattle.paths.proofs.Joins.{none_join, over_append}
use Rattle.paths.proofs.Cut.{L_all}
use Rattle.paths.proofs.Steps.{settled}
use Rattle.paths.proofs.Rounds.{round_step}
use Rattle.catalogue.specs.Meanings.{Meaning, Sound}
use Rattle.catalogue.specs.Calls.{arc_at}
use Rattle.tables.specs.Tables.{row, put_row, relaxed}
use Rattle.tables.specs.Settling.{Settled}
use Rattle.tables.proofs.Areas.{row_within}
use Rattle.tables.proofs.InForce.{Along, answered_in, along_some}
use Rattle.tables.proofs.RowWrites.{row_relaxed, cell_row, length_row}

-- the table S joined with the ways of D with one of the arcs put before them
abbrev pub led : {K : Type 0} → Ops K → (ℕ → ℕ → K) → (ℕ → ℕ → K) → List (Arc K) → ℕ → ℕ → K
led o S D arcs i j = o.join (S i j) (before o arcs D i j)

module _ {K : Type 0} (o : Ops K) (laws : Laws o) where
  -- what one arc leads to
  over_arc : (ℕ → ℕ → K) → Arc K → ℕ → ℕ → K
  over_arc D a i j = cond (eqb a.from i) (o.extend a.label (D a.to j)) o.none

  led_push : (S D : ℕ → ℕ → K) (arcs : List (Arc K)) (a : Arc K) (i j : ℕ) → led o S D (arcs ++ (a ∷ [])) i j ≡ o.join (led o S D arcs i j) (over_arc D a i j)
  unfolding over_arc
  led_push S D arcs a i j =
      ap (o.join (S i j)) (over_append o laws _ arcs (a ∷ []) ∙ ap (o.join (before o arcs D i j)) (none_join o laws (over_arc D a i j)))
      ∙ sym (laws.join_assoc (S i j) (before o arcs D i j) (over_arc D a i j))

  joined_or_not : (b : Bool) (x y : K) → cond b (o.join x y) x ≡ o.join x (cond b y o.none)
  joined_or_not true x y = refl
  joined_or_not false x y = sym (none_join o laws x)

  -- one place more
  module _ (m : Meaning K) (k : ℕ) (S : ℕ → ℕ → K) (changed found : List K) (along : Along m o m.n (led o S (cell o m.n changed)) k found) where
    pub led_more : Sound o m → length changed ≡ m.n * m.n → length found ≡ m.n * m.n → (a : Arc K) → Some a ≡ arc_at m k
        → (after next : List K) → after ≡ next → next ≡ put_row m.n found a.from (relaxed o a.label (row m.n found a.from) (row m.n changed a.to))
        → Along m o m.n (led o S (cell o m.n changed)) (k + 1) after
    unfolding over_arc
    led_more sound long-changed long-found a e after next same made =
        let n = m.n in
        let inside = answered_in m o n k a sound refl e in
        let via = row n changed a.to in
        along_some m o n (led o S (cell o n changed)) (over_arc (cell o n changed)) (led_push S (cell o n changed)) k found along a e after
        (subst (λ xs. Shows o n xs (λ i j. o.join (cell o n found i j) (over_arc (cell o n changed) a i j))) (sym (same ∙ made))
        (λ i j hi hj.
        row_relaxed o n a.label found via a.from (omega (arith, long-found, row_within n a.from inside.from_in)) (length_row n changed a.to (omega (arith, long-changed, row_within n a.to inside.to_in))) i j hj
        ∙ joined_or_not (eqb a.from i) (cell o n found i j) (o.extend a.label (get_or via j o.none))
        ∙ ap (λ x. o.join (cell o n found i j) (cond (eqb a.from i) (o.extend a.label x) o.none)) (cell_row n changed a.to j o.none hj)))

-- once q rounds are made: the table, what the last of them changed, and nothing found yet
pub record Turn {K : Type 0} (o : Ops K) (arcs : List (Arc K)) (n q : ℕ) (cells changed found : List K) : Type 0 where
  pub few : q < n
  pub shows : Shows o n cells (L o arcs (suc q))
  pub told : (i j : ℕ) → i < n → j < n → o.join (L o arcs q i j) (cell o n changed i j) ≡ L o arcs (suc q) i j
  pub clean : (u : ℕ) → u < n * n → get_or found u o.none ≡ o.none
  pub least : (p : ℕ) → 1 ≤ p → p < suc q → Still o arcs n p → ⊥

module _ {K : Type 0} (o : Ops K) (laws : Laws o) (arcs : List (Arc K)) (n : ℕ) where
  module _ (absorbs : Absorbs o) (ends : (a : Arc K) → Mem a arcs → a.to < n) (q : ℕ) (cells changed found ways cells' changed' found' : List K) (moved : Bool)
      (turn : Turn o arcs n q cells changed found)
      (spread : Shows o n ways (led o (cell o n found) (cell o n changed) arcs))
      (long : length cells ≡ n * n) (settle : Settled o cells ways cells' changed' found' (length cells) moved) where
    in_cells : (i j : ℕ) → i < n → j < n → i * n + j < length cells
    in_cells i j hi hj = omega (arith, mul-add-lt i n j n hi hj)

    next : Shows o n cells' (L o arcs (suc (suc q)))
    next i j hi hj =
        settle.joined (i * n + j) (in_cells i j hi hj)
        ∙ ap₂ o.join (turn.shows i j hi hj) (spread i j hi hj ∙ ap (λ x. o.join x (before o arcs (cell o n changed) i j)) (turn.clean (i * n + j) (mul-add-lt i n j n hi hj)) ∙ laws.join_none (before o arcs (cell o n changed) i j))
        ∙ sym (round_step o laws arcs n q (cell o n changed) ends turn.told i j hj)

    next_told : (i j : ℕ) → i < n → j < n → o.join (L o arcs (suc q) i j) (cell o n changed' i j) ≡ L o arcs (suc (suc q)) i j
    next_told i j hi hj = ap (λ x. o.join x (cell o n changed' i j)) (sym (turn.shows i j hi hj)) ∙ settle.told (i * n + j) (in_cells i j hi hj) ∙ next i j hi hj

    moving : moved ≡ true → Still o arcs n (suc q) → ⊥
    moving e still = settle.stirred e (λ v h.
        let pos : 0 < n = omega (arith, turn.few) in
        let hi : v / n < n = div_below v n n pos (omega arith) in
        let hj : v % n < n = mod_below v n pos in
        subst (λ u. get_or cells' u o.none ≡ get_or cells u o.none) (div-add-mod' v n)
        (next (v / n) (v % n) hi hj ∙ still (v / n) (v % n) hi hj ∙ sym (turn.shows (v / n) (v % n) hi hj)))

    pub turn_more : (made : ℕ) → made ≡ q + 1 → moved ≡ true → Turn o arcs n made cells' changed' found'
    turn_more made count e = subst (λ k. Turn o arcs n k cells' changed' found') (sym (count ∙ add-one q)) (record {
      few = go (dec_lt (suc q) n);
      shows = next;
      told = next_told;
      clean = λ u h. settle.clean u (omega arith);
      least = λ p h k. none_yet p h k (dec_lt p (suc q));
    })
      where
        go : Dec (suc q < n) → suc q < n
        go (yes h) = h
        go (no h) = absurd (moving e (λ i j hi hj.
            L_all o laws absorbs arcs n ends (suc (suc q)) (omega arith) i j ∙ sym (L_all o laws absorbs arcs n ends (suc q) (omega arith) i j)))

        none_yet : (p : ℕ) → 1 ≤ p → p < suc (suc q) → Dec (p < suc q) → Still o arcs n p → ⊥
        none_yet p h k (yes lt) = turn.least p h lt
        none_yet p h k (no ge) = let at : suc q ≡ p = omega arith in subst (λ x. Still o arcs n x → ⊥) at (moving e)

    stopped : moved ≡ false → Still o arcs n (suc q)
    stopped e i j hi hj = sym (next i j hi hj) ∙ settle.still e (i * n + j) (in_cells i j hi hj) ∙ turn.shows i j hi hj

    pub last : (made : ℕ) → made ≡ q + 1 → moved ≡ false → Shows o n cells' (L o arcs n) × LeastStill o arcs n made
    last made count e = (
      λ i j hi hj. next i j hi hj ∙ stopped e i j hi hj ∙ sym (settled o laws arcs n ends (suc q) (stopped e) n turn.few i j hi hj),
      subst (LeastStill o arcs n) (sym (count ∙ add-one q)) (record { some = omega arith; still = stopped e; least = turn.least }),
    )
