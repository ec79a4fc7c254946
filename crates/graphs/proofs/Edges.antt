-- What compressed rows say of the arcs in force: an edge is an arc, and every arc is an edge.
use Rattle.std.proofs.Common.{◌≡◌, ℕ, zero, suc, ◌+◌, ◌-◌, ◌<◌, ◌≤◌, eqb, List, [], ◌∷◌, length, get_or, Some, None, filter, Option, sym, refl, ap, ◌∙◌, subst, inl, inr, ⊎_elim, add-one, arith, take_all, eq-eqb, eqb-true}
use Rattle.std.specs.List.{between}
use Rattle.std.specs.Option.{option_to_list}
use Rattle.std.proofs.lemmas.List.{get_or_past}
use Rattle.std.proofs.lemmas.List.Edits.{length-between, get_or-between}
use Rattle.std.proofs.lemmas.List.Elements.{All-from_recursion, All-filter}
use Rattle.std.proofs.lemmas.Bool.{cases_lt}
use Rattle.labels.specs.Algebra.{Ops}
use Rattle.paths.specs.declared.arc.Arc.{Arc}
use Rattle.paths.specs.Chains.{Mem}
use Rattle.paths.proofs.Members.{mem_left, mem_right, mem_append, of_cond, mem_cond}
use Rattle.catalogue.specs.Meanings.{Meaning, ArcOk, Sound, free_ends, in_force}
use Rattle.catalogue.specs.Calls.{arc_at}
use Rattle.tables.proofs.InForce.{first_arcs, next, mem_all}
use Rattle.graphs.specs.Rows.{Reading, targets, sources, places, given, row_of, Compressed}
use Rattle.graphs.specs.Searches.{Graph, Edge}

-- what is in a list is at a place of it, and the other way round
mem_at : (xs : List ℕ) (x : ℕ) → Mem x xs → (i : ℕ) × (i < length xs) × (get_or xs i 0 ≡ x)
mem_at [] x h = elim h [ ]
mem_at (y ∷ xs) x (inl e) = (0, omega arith, sym e)
mem_at (y ∷ xs) x (inr h) = let t = mem_at xs x h in (suc t.0, omega (arith, t.1), t.2)

at_mem : (xs : List ℕ) (i : ℕ) → i < length xs → Mem (get_or xs i 0) xs
at_mem [] i h = absurd (omega (arith, h))
at_mem (y ∷ xs) zero h = inl refl
at_mem (y ∷ xs) (suc i) h = inr (at_mem xs i (omega (arith, h)))

of_between : (lo hi : ℕ) (xs : List ℕ) (q : ℕ) → lo ≤ hi → hi ≤ length xs → Mem q (between lo hi xs) → (k : ℕ) × (lo ≤ k) × (k < hi) × (get_or xs k 0 ≡ q)
of_between lo hi xs q le inside h =
    let t = mem_at (between lo hi xs) q h in
    let lt : lo + t.0 < hi = omega (arith, t.1, length-between xs lo hi inside, le) in
    (lo + t.0, omega arith, lt, sym (get_or-between xs lo hi t.0 0 lt) ∙ t.2)

pub in_between : (lo hi : ℕ) (xs : List ℕ) (k : ℕ) → hi ≤ length xs → lo ≤ k → k < hi → Mem (get_or xs k 0) (between lo hi xs)
in_between lo hi xs k inside low high =
    let e : lo + (k - lo) ≡ k = omega (arith, low) in
    subst (λ y. Mem y (between lo hi xs)) (get_or-between xs lo hi (k - lo) 0 (omega (arith, low, high)) ∙ ap (λ j. get_or xs j 0) e)
    (at_mem (between lo hi xs) (k - lo) (omega (arith, low, high, length-between xs lo hi inside)))

module _ {K : Type 0} (m : Meaning K) where
  -- an arc in force stands at a place, and an arc that is answered is in force
  placed : (k : ℕ) (a : Arc K) → Mem a (first_arcs m k) → (j : ℕ) × (j < k) × (Some a ≡ arc_at m j)
  placed zero a h = elim h [ ]
  placed (suc k) a h =
      ⊎_elim
      (λ (old : Mem a (first_arcs m k)). let t = placed k a old in (t.0, omega (arith, t.1), t.2))
      (λ (new : Mem a (option_to_list (arc_at m k))). (k, omega arith, of_option (arc_at m k) new))
      (mem_append a (first_arcs m k) (option_to_list (arc_at m k)) (subst (Mem a) (ap (first_arcs m) (sym (add-one k)) ∙ next m k (arc_at m k) refl) h))
    where
      of_option : (x : Option (Arc K)) → Mem a (option_to_list x) → Some a ≡ x
      of_option None h = elim h [ ]
      of_option (Some b) (inl e) = ap (λ y. Some y) e
      of_option (Some b) (inr h) = elim h [ ]

  answered : (k j : ℕ) (a : Arc K) → j < k → Some a ≡ arc_at m j → Mem a (first_arcs m k)
  answered zero j a h e = absurd (omega (arith, h))
  answered (suc k) j a h e =
      subst (Mem a) (sym (ap (first_arcs m) (sym (add-one k)) ∙ next m k (arc_at m k) refl))
      (⊎_elim
      (λ (lt : j < k). mem_left a (first_arcs m k) (option_to_list (arc_at m k)) (answered k j a lt e))
      (λ (ge : k ≤ j).
      let at : j ≡ k = omega (arith, h, ge) in
      mem_right a (first_arcs m k) (option_to_list (arc_at m k)) (subst (λ x. Mem a (option_to_list x)) (e ∙ ap (arc_at m) at) (inl refl)))
      (cases_lt j k))

  all_arcs : first_arcs m (length m.stock) ≡ in_force m
  all_arcs = ap (filter (free_ends m)) (take_all (length m.stock) m.stock (omega arith))

  module _ (r : Reading K) (p : ℕ) where
    -- an entry of a row comes from an arc, and every arc gives one
    pub of_row : (k q : ℕ) → Mem q (row_of (arc_at m) r p k) → (j : ℕ) × (j < k) × (a : Arc K) × (Some a ≡ arc_at m j) × (r.row a ≡ p) × (r.entry j a ≡ q)
    of_row zero q h = elim h [ ]
    of_row (suc k) q h =
        ⊎_elim
        (λ (old : Mem q (row_of (arc_at m) r p k)). let t = of_row k q old in (t.0, omega (arith, t.1), t.2, t.3, t.4, t.5))
        (λ (new : Mem q (given (arc_at m) r p k (arc_at m k))). let t = of_given (arc_at m k) new in (k, omega arith, t.0, t.1, t.2, t.3))
        (mem_append q (row_of (arc_at m) r p k) (given (arc_at m) r p k (arc_at m k)) h)
      where
        of_given : (x : Option (Arc K)) → Mem q (given (arc_at m) r p k x) → (a : Arc K) × (Some a ≡ x) × (r.row a ≡ p) × (r.entry k a ≡ q)
        of_given None h = elim h [ ]
        of_given (Some a) h =
            let t = of_cond (eqb (r.row a) p) q (r.entry k a ∷ []) h in
            elim t.1 [ inl e ↦ (a, refl, eqb-true (r.row a) p t.0, sym e) | inr h ↦ elim h [ ] ]

    pub in_row : (k j : ℕ) (a : Arc K) → j < k → Some a ≡ arc_at m j → r.row a ≡ p → Mem (r.entry j a) (row_of (arc_at m) r p k)
    in_row zero j a h e own = absurd (omega (arith, h))
    in_row (suc k) j a h e own =
        ⊎_elim
        (λ (lt : j < k). mem_left (r.entry j a) (row_of (arc_at m) r p k) (given (arc_at m) r p k (arc_at m k)) (in_row k j a lt e own))
        (λ (ge : k ≤ j).
        let at : j ≡ k = omega (arith, h, ge) in
        mem_right (r.entry j a) (row_of (arc_at m) r p k) (given (arc_at m) r p k (arc_at m k))
        (subst (λ x. Mem (r.entry j a) (given (arc_at m) r p k x)) (e ∙ ap (arc_at m) at)
        (subst (λ i. Mem (r.entry j a) (given (arc_at m) r p i (Some a))) at (mem_cond (eqb (r.row a) p) (r.entry j a) (r.entry j a ∷ []) (eq-eqb (r.row a) p own) (inl refl)))))
        (cases_lt j k)

  module _ (o : Ops K) (sound : Sound o m) (a : Arc K) (h : Mem a (in_force m)) where
    lawful : ArcOk o m.n a
    lawful = mem_all (ArcOk o m.n) (in_force m) a (All-filter (free_ends m) (ArcOk o m.n) m.stock (All-from_recursion (ArcOk o m.n) m.stock sound.arcs)) h

    -- the two ends of an arc in force are packages, and differ
    pub ends : (a.from < m.n) × (a.to < m.n)
    ends = (lawful.from_in, lawful.to_in)

    pub apart : a.from ≡ a.to → ⊥
    apart = lawful.apart

  module _ (r : Reading K) (starts cells : List ℕ) (c : Compressed (arc_at m) r m.n (length m.stock) starts cells) where
    inside : (p k : ℕ) → k < get_or starts (p + 1) 0 → p < m.n
    inside p k h =
        ⊎_elim (λ lt. lt)
        (λ (ge : m.n ≤ p). absurd (omega (arith, h, get_or_past starts (p + 1) 0 (omega (arith, c.long, ge)))))
        (cases_lt p m.n)

    -- what stands in a row comes from an arc in force
    pub entry_from : (p k : ℕ) → get_or starts p 0 ≤ k → k < get_or starts (p + 1) 0
        → (j : ℕ) × (a : Arc K) × (Some a ≡ arc_at m j) × (j < length m.stock) × Mem a (in_force m) × (r.row a ≡ p) × (r.entry j a ≡ get_or cells k 0)
    entry_from p k low high =
        let lt = inside p k high in
        let t = of_row r p (length m.stock) (get_or cells k 0) (subst (Mem (get_or cells k 0)) (c.rows p lt) (in_between (get_or starts p 0) (get_or starts (p + 1) 0) cells k (c.within p lt) low high)) in
        (t.0, t.2, t.3, t.1, subst (Mem t.2) all_arcs (answered (length m.stock) t.0 t.2 t.1 t.3), t.4, t.5)

    -- every arc in force has an entry in its row
    pub entry_of : (a : Arc K) → r.row a < m.n → Mem a (in_force m) → (j : ℕ) × (Some a ≡ arc_at m j) × Edge starts cells (r.row a) (r.entry j a)
    entry_of a lt h =
        let t = placed (length m.stock) a (subst (Mem a) (sym all_arcs) h) in
        let p : ℕ = r.row a in
        let row = in_row r p (length m.stock) t.0 a t.1 t.2 refl in
        (t.0, t.2, of_between (get_or starts p 0) (get_or starts (p + 1) 0) cells (r.entry t.0 a) (c.rising p lt) (c.within p lt) (subst (Mem (r.entry t.0 a)) (sym (c.rows p lt)) row))

    graph_with : (o : Ops K) → Sound o m → ((j : ℕ) (a : Arc K) → Mem a (in_force m) → r.entry j a < m.n) → Graph starts cells m.n
    graph_with o sound head = record {
      long = c.long;
      small = sound.most;
      rising = c.rising;
      within = c.within;
      heads = λ p k lt low high. let t = entry_from p k low high in subst (λ y. y < m.n) t.6 (head t.0 t.1 t.4);
    }

  -- what stands in a row of places is the place of an arc in force that leaves the row's package
  pub arc_there : (starts cells : List ℕ) → Compressed (arc_at m) places m.n (length m.stock) starts cells
      → (p k : ℕ) → get_or starts p 0 ≤ k → k < get_or starts (p + 1) 0
      → (a : Arc K) × (Some a ≡ arc_at m (get_or cells k 0)) × (get_or cells k 0 < length m.stock) × Mem a (in_force m) × (a.from ≡ p)
  arc_there starts cells c p k low high =
      let t = entry_from places starts cells c p k low high in
      (t.1, t.2 ∙ ap (arc_at m) t.6, omega (arith, t.3, t.6), t.4, t.5)

  module _ (o : Ops K) (sound : Sound o m) (starts cells : List ℕ) where
    module _ (c : Compressed (arc_at m) targets m.n (length m.stock) starts cells) where
      pub targets_graph : Graph starts cells m.n
      targets_graph = graph_with targets starts cells c o sound (λ j a h. (ends o sound a h).1)

      -- an edge of the targets' rows is an arc in force, and the other way round
      pub edge_to : (p q : ℕ) → Edge starts cells p q → (a : Arc K) × Mem a (in_force m) × (a.from ≡ p) × (a.to ≡ q)
      edge_to p q e = let t = entry_from targets starts cells c p e.0 e.1 e.2 in (t.1, t.4, t.5, t.6 ∙ e.3)

      pub edge_of : (a : Arc K) → Mem a (in_force m) → Edge starts cells a.from a.to
      edge_of a h = (entry_of targets starts cells c a (ends o sound a h).0 h).2

    module _ (c : Compressed (arc_at m) sources m.n (length m.stock) starts cells) where
      pub sources_graph : Graph starts cells m.n
      sources_graph = graph_with sources starts cells c o sound (λ j a h. (ends o sound a h).0)

      -- the same of the sources' rows, with the ends exchanged
      pub turned_to : (p q : ℕ) → Edge starts cells p q → (a : Arc K) × Mem a (in_force m) × (a.to ≡ p) × (a.from ≡ q)
      turned_to p q e = let t = entry_from sources starts cells c p e.0 e.1 e.2 in (t.1, t.4, t.5, t.6 ∙ e.3)

      pub turned_of : (a : Arc K) → Mem a (in_force m) → Edge starts cells a.to a.from
      turned_of a h = (entry_of sources starts cells c a (ends o sound a h).1 h).2

  -- the edges of the sources' rows are those of the targets' rows turned round
  module _ (o : Ops K) (sound : Sound o m) (s₁ c₁ s₂ c₂ : List ℕ)
      (back : Compressed (arc_at m) sources m.n (length m.stock) s₁ c₁) (ahead : Compressed (arc_at m) targets m.n (length m.stock) s₂ c₂) where
    pub turn : (p q : ℕ) → Edge s₁ c₁ p q → Edge s₂ c₂ q p
    turn p q e =
        let t = turned_to o sound s₁ c₁ back p q e in
        subst (λ y. Edge s₂ c₂ q y) t.2 (subst (λ x. Edge s₂ c₂ x t.0.to) t.3 (edge_of o sound s₂ c₂ ahead t.0 t.1))

    pub turn_back : (p q : ℕ) → Edge s₂ c₂ q p → Edge s₁ c₁ p q
    turn_back p q e =
        let t = edge_to o sound s₂ c₂ ahead q p e in
        subst (λ y. Edge s₁ c₁ p y) t.2 (subst (λ x. Edge s₁ c₁ x t.0.from) t.3 (turned_of o sound s₁ c₁ back t.0 t.1))
