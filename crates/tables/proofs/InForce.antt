-- Going through the places of a stock.
use Rattle.std.proofs.Common.{◌≡◌, ℕ, zero, suc, ◌+◌, ◌<◌, ◌≤◌, true, false, cond, List, [], ◌∷◌, ◌++◌, length, take, Some, None, filter, Option, sym, refl, ap, ◌∙◌, subst, inl, inr, append-nil, add-one, arith, take_all}
use Rattle.std.specs.List.{All, AllByRecursion, slice_get}
use Rattle.std.specs.Option.{IfSome, option_to_list}
use Rattle.std.proofs.lemmas.List.Elements.{All-from_recursion, All-head, All-tail, All-filter}
use Rattle.labels.specs.Algebra.{Ops}
use Rattle.paths.specs.declared.arc.Arc.{Arc}
use Rattle.paths.specs.Chains.{Mem}
use Rattle.paths.specs.Tables.{cell, Shows}
use Rattle.catalogue.specs.Meanings.{Meaning, ArcOk, Sound, free_ends, in_force}
use Rattle.catalogue.specs.Calls.{unheld, arc_at}

pub mem_all : {A : Type 0} (P : A → Type 0) (xs : List A) (a : A) → All P xs → Mem a xs → P a
mem_all P [] a h m = elim m [ ]
mem_all P (x ∷ xs) a h (inl e) = subst P (sym e) (All-head P x xs h)
mem_all P (x ∷ xs) a h (inr m) = mem_all P xs a (All-tail P x xs h) m

module _ {K : Type 0} (m : Meaning K) where
  if_at : (P : Arc K → Type 0) (xs : List (Arc K)) (k : ℕ) → AllByRecursion P xs → IfSome (unheld m (slice_get xs k)) P
  if_at P [] k h = tt
  if_at P (x ∷ xs) zero h = elim (free_ends m x) as (λ b. IfSome (cond b (Some x) None) P) [ true ↦ h.0 | false ↦ tt ]
  if_at P (x ∷ xs) (suc k) h = if_at P xs k h.1

  -- an arc that is answered is lawful
  pub answered_ok : (o : Ops K) (k : ℕ) (a : Arc K) → Sound o m → Some a ≡ arc_at m k → ArcOk o m.n a
  answered_ok o k a s e = subst (λ r. IfSome r (ArcOk o m.n)) (sym e) (if_at (ArcOk o m.n) m.stock k s.arcs)

  -- its ends are below n, which is at most 1024
  pub record Inside (n : ℕ) (a : Arc K) : Type 0 where
    pub few : n ≤ 1024
    pub from_in : a.from < n
    pub to_in : a.to < n

  pub answered_in : (o : Ops K) (n k : ℕ) (a : Arc K) → Sound o m → n ≡ m.n → Some a ≡ arc_at m k → Inside n a
  answered_in o n k a s e at = let ok = answered_ok o k a s at in record { few = omega (arith, s.most); from_in = omega (arith, ok.from_in); to_in = omega (arith, ok.to_in) }

  -- an arc in force ends below n
  pub in_force_to : (o : Ops K) → Sound o m → (a : Arc K) → Mem a (in_force m) → a.to < m.n
  in_force_to o s a h = (mem_all (ArcOk o m.n) (in_force m) a (All-filter (free_ends m) (ArcOk o m.n) m.stock (All-from_recursion (ArcOk o m.n) m.stock s.arcs)) h).to_in

  -- the arcs in force among the first k places
  abbrev pub first_arcs : ℕ → List (Arc K)
  first_arcs k = filter (free_ends m) (take k m.stock)

  step : (xs : List (Arc K)) (k : ℕ) → filter (free_ends m) (take (suc k) xs) ≡ filter (free_ends m) (take k xs) ++ option_to_list (unheld m (slice_get xs k))
  step [] zero = refl
  step [] (suc k) = refl
  step (x ∷ xs) zero = elim (free_ends m x) as (λ b. cond b (x ∷ []) [] ≡ option_to_list (cond b (Some x) None)) [ true ↦ refl | false ↦ refl ]
  step (x ∷ xs) (suc k) =
      let keep = filter (free_ends m) in
      elim (free_ends m x) as (λ b. cond b (x ∷ keep (take (suc k) xs)) (keep (take (suc k) xs)) ≡ cond b (x ∷ keep (take k xs)) (keep (take k xs)) ++ option_to_list (unheld m (slice_get xs k)))
      [ true ↦ ap (λ r. x ∷ r) (step xs k) | false ↦ step xs k ]

  pub next : (k : ℕ) (x : Option (Arc K)) → x ≡ arc_at m k → first_arcs (k + 1) ≡ first_arcs k ++ option_to_list x
  next k x e = rw add-one (step m.stock k ∙ ap (λ y. first_arcs k ++ option_to_list y) (sym e))

  -- the cells are the table T of the arcs in force among the first k places; so of all, once k has passed them
  pub record Along (o : Ops K) (n : ℕ) (T : List (Arc K) → ℕ → ℕ → K) (k : ℕ) (cells : List K) : Type 0 where
    pub so_far : Shows o n cells (T (first_arcs k))
    pub at_last : length m.stock ≤ k → Shows o n cells (T (in_force m))

  module _ (o : Ops K) (n : ℕ) (T : List (Arc K) → ℕ → ℕ → K) where
    along : (k : ℕ) (cells : List K) → Shows o n cells (T (first_arcs k)) → Along o n T k cells
    along k cells shows = record { so_far = shows; at_last = λ h. subst (λ arcs. Shows o n cells (T arcs)) (ap (filter (free_ends m)) (take_all k m.stock h)) shows }

    pub along_none : (k : ℕ) (cells after : List K) → Along o n T k cells → None ≡ arc_at m k → after ≡ cells → Along o n T (k + 1) after
    along_none k cells after old e same =
        along (k + 1) after (subst (λ arcs. Shows o n after (T arcs)) (sym (next k None e ∙ append-nil (first_arcs k))) (subst (λ xs. Shows o n xs (T (first_arcs k))) (sym same) old.so_far))

    -- X is what one arc more adds
    pub along_some : (X : Arc K → ℕ → ℕ → K) → ((arcs : List (Arc K)) (a : Arc K) (i j : ℕ) → T (arcs ++ (a ∷ [])) i j ≡ o.join (T arcs i j) (X a i j))
        → (k : ℕ) (cells : List K) → Along o n T k cells → (a : Arc K) → Some a ≡ arc_at m k
        → (after : List K) → Shows o n after (λ i j. o.join (cell o n cells i j) (X a i j)) → Along o n T (k + 1) after
    along_some X push k cells old a e after shows =
        along (k + 1) after (subst (λ arcs. Shows o n after (T arcs)) (sym (next k (Some a) e))
        (λ i j hi hj. shows i j hi hj ∙ ap (λ x. o.join x (X a i j)) (old.so_far i j hi hj) ∙ sym (push (first_arcs k) a i j)))
