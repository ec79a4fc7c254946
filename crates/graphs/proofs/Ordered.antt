-- Closing by order: the rows of the first packages of the order are those of L(n).
use Rattle.std.proofs.Common.{◌≡◌, ◌≢◌, ℕ, ◌+◌, ◌-◌, ◌*◌, ◌<◌, ◌≤◌, Bool, true, false, cond, eqb, List, [], ◌∷◌, length, get_or, set, drop, Some, None, Option, sym, refl, ap, ◌∙◌, subst, ap₂, arith, eq-eqb}
use native.Mathlib.Decide.{ℕ_discrete, dec_lt}
use borrow.Rule.Slice.PartMut.{mid_of, put_mid}
use Rattle.std.specs.List.{between, remove, list_any}
use Rattle.std.proofs.lemmas.List.{length-take, length-drop}
use Rattle.std.proofs.lemmas.Map.Steps.{le-length_from_below}
use Rattle.std.proofs.lemmas.List.Edits.{between_none, between_more, length-remove, get_or-remove_below, get_or-remove_above}
use Rattle.std.proofs.lemmas.List.Folds.{list_any_at}
use Rattle.labels.specs.Algebra.{Ops, Laws}
use Rattle.paths.specs.declared.arc.Arc.{Arc}
use Rattle.paths.specs.Chains.{Mem, join_over, L}
use Rattle.paths.specs.Groups.{Loop}
use Rattle.paths.specs.Tables.{cell, Shows, before}
use Rattle.paths.proofs.Joins.{none_join, over_append, over_cong}
use Rattle.paths.proofs.Steps.{stay}
use Rattle.paths.proofs.Straight.{L_before}
use Rattle.paths.proofs.Written.{shown}
use Rattle.catalogue.specs.Meanings.{Meaning, ArcOk, Sound, in_force}
use Rattle.catalogue.specs.Calls.{arc_at}
use Rattle.tables.specs.Tables.{Square, row, put_row, relaxed}
use Rattle.tables.specs.Closings.{labels}
use Rattle.tables.proofs.Areas.{row_within}
use Rattle.tables.proofs.Choosing.{here, elsewhere}
use Rattle.tables.proofs.Singles.{alone, cell_joined}
use Rattle.tables.proofs.RowWrites.{cell_beside, cell_written, row_relaxed, cell_row, length_row}
use Rattle.graphs.specs.Orders.{or_stay, led, led_row, EndsFirst}
use Rattle.graphs.specs.Records.{PackageRecord, of}
use Rattle.graphs.specs.Searches.{Rising, Lists}
use Rattle.graphs.specs.Rows.{places, row_of, Compressed}
use Rattle.graphs.proofs.Edges.{ends, arc_there}
use Rattle.graphs.proofs.PlacesJoined.{value, places_joined}

module _ {K : Type 0} (o : Ops K) (laws : Laws o) where
  only : (d : Bool) (l : K) → o.extend l (cond d o.whole o.none) ≡ cond d l o.none
  only true l = laws.whole_right l
  only false l = laws.none_right l

  -- an arc's label joined into the cell of its ends, and then its label before the row of its end
  pub arc_led : (n : ℕ) (a : Arc K) (cells mid new : List K) → a.from < n → a.to < n → a.from ≢ a.to → Square n cells
      → mid ≡ set cells (a.from * n + a.to) (o.join (cell o n cells a.from a.to) a.label)
      → new ≡ put_row n mid a.from (relaxed o a.label (row n mid a.from) (row n mid a.to))
      → length mid ≡ length cells
      → Shows o n new (λ i j. o.join (cell o n cells i j) (led o (cell o n cells) a i j))
  arc_led n a cells mid new from to apart square first then same i j hi hj =
      ap (λ xs. cell o n xs i j) then
      ∙ row_relaxed o n a.label mid (row n mid a.to) a.from (omega (arith, square, same, row_within n a.from from))
      (length_row n mid a.to (omega (arith, square, same, row_within n a.to to))) i j hj
      ∙ ap₂ (λ x y. cond (eqb a.from i) (o.join x (o.extend a.label y)) x) (joined i hi) (cell_row n mid a.to j o.none hj ∙ joined a.to to ∙ ap (o.join (cell o n cells a.to j)) (elsewhere a.from a.to _ _ apart) ∙ none_join o laws (cell o n cells a.to j))
      ∙ go (eqb a.from i)
    where
      joined : (p : ℕ) → p < n → cell o n mid p j ≡ o.join (cell o n cells p j) (alone o a p j)
      joined p hp = ap (λ xs. cell o n xs p j) first ∙ cell_joined o laws n cells a from to square p j hp hj

      go : (b : Bool) → cond b (o.join (o.join (cell o n cells i j) (cond b (cond (eqb a.to j) a.label o.none) o.none)) (o.extend a.label (cell o n cells a.to j))) (o.join (cell o n cells i j) (cond b (cond (eqb a.to j) a.label o.none) o.none))
          ≡ o.join (cell o n cells i j) (cond b (o.extend a.label (o.join (cond (eqb a.to j) o.whole o.none) (cell o n cells a.to j))) o.none)
      go true =
          laws.join_assoc (cell o n cells i j) (cond (eqb a.to j) a.label o.none) (o.extend a.label (cell o n cells a.to j))
          ∙ ap (λ x. o.join (cell o n cells i j) (o.join x (o.extend a.label (cell o n cells a.to j)))) (sym (only (eqb a.to j) a.label))
          ∙ ap (o.join (cell o n cells i j)) (sym (laws.spread_left a.label (cond (eqb a.to j) o.whole o.none) (cell o n cells a.to j)))
      go false = refl

-- what the arc at place k leads to at column j: `old` is the table before its row is made
abbrev pub led_at : {K : Type 0} → Ops K → Meaning K → List K → ℕ → ℕ → K
led_at o m old j k = value o (λ a. o.extend a.label (or_stay o (cell o m.n old) a.to j)) (arc_at m k)

-- once some entries of row p are joined
abbrev pub Entered : {K : Type 0} → Ops K → Meaning K → ℕ → List K → List K → List ℕ → Type 0
Entered {K} o m p old cells entries = Shows o m.n cells (λ i j. cond (eqb i p) (join_over o (led_at o m old j) entries) (cell o m.n old i j))

-- the rows of the first k packages of the order are those of L(n)
abbrev pub ClosedRows : {K : Type 0} → Ops K → Meaning K → List ℕ → ℕ → List K → Type 0
ClosedRows o m order k cells = (q j : ℕ) → q < k → j < m.n → cell o m.n cells (get_or order q 0) j ≡ L o (in_force m) m.n (get_or order q 0) j

-- the arc at a place of row p leaves from p
pub leaves_row : {K : Type 0} (m : Meaning K) (starts entries : List ℕ) → Compressed (arc_at m) places m.n (length m.stock) starts entries
    → (p k : ℕ) (a : Arc K) → get_or starts p 0 ≤ k → k < get_or starts (p + 1) 0 → Some a ≡ arc_at m (get_or entries k 0) → a.from ≡ p
leaves_row m starts entries rows p k a from below e =
    let b = arc_there m starts entries rows p k from below in
    let both : Some b.0 ≡ Some a = b.1 ∙ sym e in
    let is : b.0 ≡ a = (cc) in
    ap (λ c. c.from) (sym is) ∙ b.4

-- row p written with none
pub row_cleared : {K : Type 0} (o : Ops K) (n p start k : ℕ) (old new : List K) → p < n → Square n old → start ≡ p * n → k ≡ n → length new ≡ length (mid_of start k old)
    → ((u : ℕ) → u < length (mid_of start k old) → get_or new u o.none ≡ o.none) → Shows o n (put_mid start k old new) (λ i j. cond (eqb i p) o.none (cell o n old i j))
row_cleared {K} o n p start k old new inside square at wide = subst (λ v. P v k) (sym at) (subst (λ w. P (p * n) w) (sym wide) now)
  where
    P : ℕ → ℕ → Type 0
    P start k = length new ≡ length (mid_of start k old) → ((u : ℕ) → u < length (mid_of start k old) → get_or new u o.none ≡ o.none)
        → Shows o n (put_mid start k old new) (λ i j. cond (eqb i p) o.none (cell o n old i j))

    room : p * n + n ≤ length old
    room = omega (arith, square, row_within n p inside)

    mid : length (mid_of (p * n) n old) ≡ n
    mid = omega (arith, room, length-drop (p * n) old, length-take n (drop (p * n) old))

    now : P (p * n) n
    now same none i j hi hj = go (ℕ_discrete p i)
      where
        go : Dec (p ≡ i) → cell o n (put_row n old p new) i j ≡ cond (eqb i p) o.none (cell o n old i j)
        go (yes e) =
            ap (λ q. cell o n (put_row n old p new) q j) (sym e) ∙ cell_written n old new p room (same ∙ mid) j o.none hj ∙ none j (omega (arith, mid))
            ∙ sym (here i p _ _ (sym e))
        go (no ne) = cell_beside n old new p room (same ∙ mid) i j o.none hj ne ∙ sym (elsewhere i p _ _ (λ e. ne (sym e)))

module _ {K : Type 0} (o : Ops K) (laws : Laws o) (m : Meaning K) (p : ℕ) (old : List K) where
  -- no entry yet
  pub entered_none : (n : ℕ) (cells : List K) (s : ℕ) (entries : List ℕ) → n ≡ m.n → Shows o n cells (λ i j. cond (eqb i p) o.none (cell o n old i j)) → Entered o m p old cells (between s s entries)
  entered_none n cells s entries e shows i j hi hj =
      subst (λ n. Shows o n cells (λ i j. cond (eqb i p) o.none (cell o n old i j))) e shows i j hi hj
      ∙ ap (λ x. cond (eqb i p) x (cell o m.n old i j)) (ap (join_over o (led_at o m old j)) (sym (between_none entries s)))

  module _ (cells after : List K) (s k : ℕ) (entries : List ℕ) (so_far : Entered o m p old cells (between s k entries)) (from : s ≤ k) (within : k < length entries) where
    more : (j : ℕ) → join_over o (led_at o m old j) (between s (k + 1) entries) ≡ o.join (join_over o (led_at o m old j) (between s k entries)) (led_at o m old j (get_or entries k 0))
    more j =
        ap (join_over o (led_at o m old j)) (between_more entries s k 0 from within)
        ∙ over_append o laws (led_at o m old j) (between s k entries) (get_or entries k 0 ∷ [])
        ∙ ap (o.join (join_over o (led_at o m old j) (between s k entries))) (none_join o laws (led_at o m old j (get_or entries k 0)))

    -- what was joined, and what an arc leads to besides
    abbrev joined : ℕ → Option (Arc K) → K
    joined j x = o.join (join_over o (led_at o m old j) (between s k entries)) (value o (λ a. o.extend a.label (or_stay o (cell o m.n old) a.to j)) x)

    -- no arc in force at the entry's place
    pub entered_same : None ≡ arc_at m (get_or entries k 0) → after ≡ cells → Entered o m p old after (between s (k + 1) entries)
    entered_same e same i j hi hj =
        ap (λ xs. cell o m.n xs i j) same ∙ so_far i j hi hj
        ∙ ap (λ x. cond (eqb i p) x (cell o m.n old i j)) (sym (more j ∙ ap (joined j) (sym e) ∙ none_join o laws (join_over o (led_at o m old j) (between s k entries))))

    -- one arc more
    pub entered_more : (n : ℕ) (a : Arc K) (next : List K) → n ≡ m.n → Some a ≡ arc_at m (get_or entries k 0) → a.from ≡ p → ArcOk o m.n a → after ≡ next
        → Shows o n next (λ i j. o.join (cell o n cells i j) (led o (cell o n cells) a i j)) → Entered o m p old after (between s (k + 1) entries)
    entered_more n a next side e start ok same shows i j hi hj =
        ap (λ xs. cell o m.n xs i j) same ∙ subst (λ n. Shows o n next (λ i j. o.join (cell o n cells i j) (led o (cell o n cells) a i j))) side shows i j hi hj ∙ go (ℕ_discrete i p)
      where
        target : cell o m.n cells a.to j ≡ cell o m.n old a.to j
        target = so_far a.to j ok.to_in hj ∙ elsewhere a.to p _ _ (λ f. ok.apart (start ∙ sym f))

        go : Dec (i ≡ p) → o.join (cell o m.n cells i j) (led o (cell o m.n cells) a i j) ≡ cond (eqb i p) (join_over o (led_at o m old j) (between s (k + 1) entries)) (cell o m.n old i j)
        go (yes f) =
            ap₂ o.join (so_far i j hi hj ∙ here i p _ _ f) (here a.from i _ _ (start ∙ sym f) ∙ ap (λ x. o.extend a.label (o.join (cond (eqb a.to j) o.whole o.none) x)) target)
            ∙ ap (joined j) e
            ∙ sym (more j)
            ∙ sym (here i p _ _ f)
        go (no ne) =
            ap₂ o.join (so_far i j hi hj ∙ elsewhere i p _ _ ne) (elsewhere a.from i _ _ (λ f. ne (sym f ∙ start)))
            ∙ none_join o laws (cell o m.n old i j) ∙ sym (elsewhere i p _ _ ne)

  -- every entry is joined
  pub entered_all : (cells : List K) (entries : List ℕ) → Entered o m p old cells entries → entries ≡ row_of (arc_at m) places p (length m.stock)
      → Shows o m.n cells (led_row o (cell o m.n old) (in_force m) p)
  entered_all cells entries all is i j hi hj = all i j hi hj ∙ go (ℕ_discrete i p)
    where
      f : Arc K → K
      f a = o.extend a.label (or_stay o (cell o m.n old) a.to j)

      go : Dec (i ≡ p) → cond (eqb i p) (join_over o (λ k. value o f (arc_at m k)) entries) (cell o m.n old i j) ≡ led_row o (cell o m.n old) (in_force m) p i j
      go (yes e) =
          here i p _ _ e ∙ ap (join_over o (λ k. value o f (arc_at m k))) is
          ∙ places_joined o laws m f p
          ∙ ap (λ q. before o (in_force m) (or_stay o (cell o m.n old)) q j) (sym e)
          ∙ sym (here i p _ _ e)
      go (no ne) = elsewhere i p _ _ ne ∙ sym (elsewhere i p _ _ ne)

-- an order of n packages that lists each below n has no other
pub listed_below : (order : List ℕ) (n k : ℕ) → length order ≡ n → Lists order n → k < n → get_or order k 0 < n
listed_below order n k long lists h = go (dec_lt (get_or order k 0) n)
  where
    go : Dec (get_or order k 0 < n) → get_or order k 0 < n
    go (yes lt) = lt
    go (no ge) =
        let others : List ℕ = remove order k in
        let fewer : length others + 1 ≡ length order = length-remove order k (omega arith) in
        absurd (omega (arith, fewer, le-length_from_below others n (λ q hq. there q hq (lists q hq) (dec_lt (lists q hq).0 k))))
      where
        at : (q i : ℕ) → i + 1 < length order → get_or (remove order k) i 0 ≡ q → list_any (eqb q) (remove order k) ≡ true
        at q i hi e = list_any_at (eqb q) (remove order k) i 0 (omega (arith, hi, length-remove order k (omega arith))) (eq-eqb q (get_or (remove order k) i 0) (sym e))

        there : (q : ℕ) → q < n → (r : (i : ℕ) × (i < n) × (get_or order i 0 ≡ q)) → Dec (r.0 < k) → list_any (eqb q) (remove order k) ≡ true
        there q hq r (yes lt) = at q r.0 (omega arith) (get_or-remove_below order k 0 r.0 lt (omega arith) ∙ r.2)
        there q hq r (no le) =
            let ne : r.0 ≢ k = λ e. let f : get_or order k 0 ≡ q = ap (λ u. get_or order u 0) (sym e) ∙ r.2 in omega arith in
            let back : (r.0 - 1) + 1 ≡ r.0 = omega arith in
            at q (r.0 - 1) (omega arith)
            (get_or-remove_above order k 0 (r.0 - 1) (omega arith) (omega arith) ∙ ap (λ u. get_or order u 0) back ∙ r.2)

module _ {K : Type 0} (o : Ops K) (m : Meaning K) (sound : Sound o m) where
  -- by rising rank, where each arc falls in rank
  pub ends_first : (records : List PackageRecord) (order : List ℕ) → Rising records order m.n → Lists order m.n
      → ((a : Arc K) → Mem a (in_force m) → (of records a.to).rank < (of records a.from).rank) → EndsFirst (in_force m) order m.n
  ends_first records order rising lists falls j a hj h start =
      let r = lists a.to (ends m o sound a h).1 in
      (r.0, go r.0 r.1 r.2 (dec_lt r.0 j), r.2)
    where
      go : (i : ℕ) → i < m.n → get_or order i 0 ≡ a.to → Dec (i < j) → i < j
      go i hi end (yes lt) = lt
      go i hi end (no ge) =
          let up = rising j i (omega arith) hi in
          let from : (of records (get_or order j 0)).rank ≡ (of records a.from).rank = ap (λ p. (of records p).rank) (sym start) in
          let to : (of records (get_or order i 0)).rank ≡ (of records a.to).rank = ap (λ p. (of records p).rank) end in
          absurd (omega (arith, falls a h, up, from, to))

  module _ (laws : Laws o) (straight : Loop (in_force m) → ⊥) where
    -- a row is that of L(n) where its arcs lead to rows of L(n)
    pub row_closed : (p : ℕ) (old cells : List K) → p < m.n → Shows o m.n cells (led_row o (cell o m.n old) (in_force m) p)
        → ((a : Arc K) (j : ℕ) → Mem a (in_force m) → a.from ≡ p → j < m.n → cell o m.n old a.to j ≡ L o (in_force m) m.n a.to j)
        → (j : ℕ) → j < m.n → cell o m.n cells p j ≡ L o (in_force m) m.n p j
    row_closed p old cells hp made closed j hj =
        made p j hp hj ∙ here p p _ _ refl
        ∙ over_cong o laws _ _ (in_force m) (λ a h. go a h (ℕ_discrete a.from p))
        ∙ sym (L_before (in_force m) straight m.n (λ a h. (ends m o sound a h).0) (λ a h. (ends m o sound a h).1) o laws p j)
      where
        go : (a : Arc K) → Mem a (in_force m) → Dec (a.from ≡ p)
            → cond (eqb a.from p) (o.extend a.label (or_stay o (cell o m.n old) a.to j)) o.none ≡ cond (eqb a.from p) (o.extend a.label (stay o (in_force m) m.n a.to j)) o.none
        go a h (yes e) = ap (λ x. cond (eqb a.from p) (o.extend a.label (o.join (cond (eqb a.to j) o.whole o.none) x)) o.none) (closed a j h e hj)
        go a h (no ne) = elsewhere a.from p _ _ ne ∙ sym (elsewhere a.from p _ _ ne)

    -- one package more
    module _ (order : List ℕ) (long : length order ≡ m.n) (lists : Lists order m.n) (first : EndsFirst (in_force m) order m.n) where
      pub closed_more : (k : ℕ) (old cells : List K) → k < m.n → ClosedRows o m order k old
          → Shows o m.n cells (led_row o (cell o m.n old) (in_force m) (get_or order k 0)) → ClosedRows o m order (k + 1) cells
      closed_more k old cells hk so_far made q j hq hj = go (ℕ_discrete (get_or order q 0) (get_or order k 0))
        where
          below : (i : ℕ) → i < m.n → get_or order i 0 < m.n
          below i = listed_below order m.n i long lists

          go : Dec (get_or order q 0 ≡ get_or order k 0) → cell o m.n cells (get_or order q 0) j ≡ L o (in_force m) m.n (get_or order q 0) j
          go (yes e) = subst (λ p. cell o m.n cells p j ≡ L o (in_force m) m.n p j) (sym e)
              (row_closed (get_or order k 0) old cells (below k hk) made
              (λ a i h start hi. let r = first k a hk h start in subst (λ p. cell o m.n old p i ≡ L o (in_force m) m.n p i) r.2 (so_far r.0 i r.1 hi)) j hj)
          go (no ne) =
              let earlier : q < k = before_k (ℕ_discrete q k) in
              made (get_or order q 0) j (below q (omega arith)) hj ∙ elsewhere (get_or order q 0) (get_or order k 0) _ _ ne ∙ so_far q j earlier hj
            where
              before_k : Dec (q ≡ k) → q < k
              before_k (yes e) = absurd (ne (ap (λ u. get_or order u 0) e))
              before_k (no apart) = omega arith

-- so are all, once the order is done
pub closed_all : {K : Type 0} (o : Ops K) (m : Meaning K) (order : List ℕ) → Lists order m.n → (k : ℕ) (cells : List K) → Square m.n cells → m.n ≤ k → ClosedRows o m order k cells → cells ≡ labels o m
closed_all o m order lists k cells square all so_far =
    shown o m.n cells (L o (in_force m) m.n) square
    (λ i j hi hj. let r = lists i hi in subst (λ p. cell o m.n cells p j ≡ L o (in_force m) m.n p j) r.2 (so_far r.0 j (omega arith) hj))
