-- From the groups and ranks that the searches leave to the definitions of sort.
use Rattle.std.proofs.Common.{◌≡◌, ℕ, ◌+◌, ◌<◌, ◌≤◌, true, false, not, eqb, List, [], ◌∷◌, map, take, drop, length, get_or, refl, sym, ap, ◌∙◌, subst, inl, inr, arith, eq-eqb, eqb-true}
use Rattle.std.specs.Cmp.{both_ways}
use Rattle.std.specs.List.{range_with_len}
use Rattle.std.proofs.lemmas.Bool.{cases_lt, not-true, not_from_false, false_from_ne_true}
use Rattle.std.proofs.lemmas.List.{ext_get_or, get_or-map, get_or-take, get_or-drop, length-map, length-take-le, length-drop}
use Rattle.std.proofs.lemmas.List.FromFn.{length-map-range_with_len, get_or-map-range_with_len}
use Rattle.paths.specs.declared.arc.Arc.{Arc}
use Rattle.paths.specs.Chains.{Mem, IsChain}
use Rattle.paths.specs.Groups.{group, group_count, looped, Chained, Together, Loop}
use Rattle.paths.proofs.Tests.{counted, every_sound, every_full}
use Rattle.paths.proofs.Groups.{chained_one, chained_join, group_in, group_least, group_one, group_apart, groups_at, loop_told}
use Rattle.graphs.specs.Records.{PackageRecord, no_wave, blank, of, own_names, Ranked, Sorted}
use Rattle.graphs.specs.Searches.{Reach, here, step, Mutual, Classified}

module _ {K : Type 0} (arcs : List (Arc K)) (n : ℕ) (ends : (a : Arc K) → Mem a arcs → (a.from < n) × (a.to < n))
    (E : ℕ → ℕ → Type 0)
    (edge_to : (p q : ℕ) → E p q → (a : Arc K) × Mem a arcs × (a.from ≡ p) × (a.to ≡ q))
    (edge_of : (a : Arc K) → Mem a arcs → E a.from a.to) where
  reach_chain : {p q : ℕ} → Reach E p q → (c : List (Arc K)) × IsChain arcs p q c
  reach_chain here = ([], refl)
  reach_chain (step {p} {q} {r} e more) =
      let a = edge_to p q e in
      let c = reach_chain more in
      (a.0 ∷ c.0, (a.1, a.2, subst (λ x. IsChain arcs x r c.0) (sym a.3) c.1))

  chain_reach : (p q : ℕ) (c : List (Arc K)) → IsChain arcs p q c → Reach E p q
  chain_reach p q [] h = subst (λ x. Reach E p x) h here
  chain_reach p q (a ∷ c) h = step (subst (λ x. E x a.to) h.1 (edge_of a h.0)) (chain_reach a.to q c h.2)

  pub together_mutual : (p q : ℕ) → Together arcs p q → Mutual E p q
  together_mutual p q (inl e) = (subst (λ x. Reach E p x) e here, subst (λ x. Reach E x p) e here)
  together_mutual p q (inr h) = (chain_reach p q h.0.0 h.0.2, chain_reach q p h.1.0 h.1.2)

  pub mutual_together : (p q : ℕ) → Mutual E p q → Together arcs p q
  mutual_together p q h = go (reach_chain h.0) (reach_chain h.1)
    where
      go : (c : List (Arc K)) × IsChain arcs p q c → (d : List (Arc K)) × IsChain arcs q p d → Together arcs p q
      go ([], c) d = inl c
      go (a ∷ c, h) ([], d) = inl (sym d)
      go (a ∷ c, h) (b ∷ d, k) = inr ((a ∷ c, omega arith, h), (b ∷ d, omega arith, k))

  heads : (a : Arc K) → Mem a arcs → a.to < n
  heads a m = (ends a m).1

  module _ (old new : List PackageRecord) (g : ℕ)
      (many : n ≤ length new) (same_length : length new ≡ length old)
      (c : Classified E (λ v. v < n) new g)
      (beyond : (v : ℕ) → n ≤ v → of new v ≡ of old v) where
    named : (p : ℕ) → p < n → (of new p).group ≡ group arcs n p
    named p h =
        let low = group_least arcs n heads p (of new p).group (mutual_together p (of new p).group (c.member p h)) in
        let high = c.least p (group arcs n p) h (together_mutual p (group arcs n p) (group_in arcs n heads p)) in
        omega arith

    same : (p q : ℕ) → p < n → group arcs n p ≡ group arcs n q → (of new p).rank ≡ (of new q).rank
    same p q h e = c.same p q h (together_mutual p q (group_apart arcs n heads p q e))

    apart : (p q : ℕ) → p < n → q < n → (of new p).rank ≡ (of new q).rank → group arcs n p ≡ group arcs n q
    apart p q h k e = group_one arcs n heads p q (mutual_together p q (c.apart p q h k e))

    pub count_is : g ≡ group_count arcs n
    count_is = sym (counted (λ p. eqb (group arcs n p) p) (λ p. (of new p).rank) n g
        (λ p h own. c.below p h)
        (λ p q h k own own' e. sym (eqb-true (group arcs n p) p own) ∙ apart p q h k e ∙ eqb-true (group arcs n q) q own')
        (λ k h.
        let r = c.used k h in
        let p = r.0 in
        let t = group_in arcs n heads p in
        let again : group arcs n (group arcs n p) ≡ group arcs n p = sym (group_one arcs n heads p (group arcs n p) t) in
        let low = group_least arcs n heads p p (inl refl) in
        (group arcs n p, omega (arith, r.1), eq-eqb (group arcs n (group arcs n p)) (group arcs n p) again, sym (same p (group arcs n p) r.1 (sym again)) ∙ r.2)))

    -- the first n records, each read by f
    read : (f : PackageRecord → ℕ) (made : ℕ → ℕ) → ((p : ℕ) → p < n → f (of new p) ≡ made p) → map f (take n new) ≡ map made (range_with_len 0 n)
    read f made is =
        let long : length (map f (take n new)) ≡ n = length-map (take n new) f ∙ length-take-le n new many in
        ext_get_or 0 (map f (take n new)) (map made (range_with_len 0 n)) (long ∙ sym (length-map-range_with_len made 0 n)) (λ p lt.
        let h : p < n = omega (arith, lt, long) in
        get_or-map f (take n new) p blank 0 (omega (arith, h, length-take-le n new many))
        ∙ ap f (get_or-take n new p blank h) ∙ is p h
        ∙ sym (get_or-map-range_with_len made 0 n p p 0 h (omega arith)))

    ranked : Ranked arcs n (λ p. (of new p).rank)
    ranked = record {
      below = λ p h. omega (arith, c.below p h, count_is);
      used = λ k h. c.used k (omega (arith, h, count_is));
      same = λ p q h k e. same p q h e;
      apart = apart;
      falls = λ a m other.
          let e = ends a m in
          let le = c.falls a.from a.to e.0 (edge_of a m) in
          elim (cases_lt (of new a.to).rank (of new a.from).rank) [
            | inl lt ↦ lt
            | inr ge ↦ absurd (other (apart a.from a.to e.0 e.1 (omega (arith, le, ge))))
          ];
    }

    pub sorted_is : Sorted arcs n old new
    sorted_is = record {
      groups = read (λ r. r.group) (group arcs n) named;
      waves = read (λ r. r.wave) (λ _. no_wave) (λ p h. c.waveless p h);
      beyond =
          ext_get_or blank (drop n new) (drop n old) (length-drop n new ∙ omega (arith, same_length) ∙ sym (length-drop n old)) (λ i h.
          get_or-drop n new i blank ∙ beyond (n + i) (omega arith) ∙ sym (get_or-drop n old i blank));
      ranks = ranked;
    }

-- where no chain leads back each package is its own group
module _ {K : Type 0} (arcs : List (Arc K)) (n : ℕ) (ends : (a : Arc K) → Mem a arcs → (a.from < n) × (a.to < n)) where
  alone : looped arcs n ≡ false → (p q : ℕ) → Together arcs p q → p ≡ q
  alone clear p q (inl e) = e
  alone clear p q (inr h) = absurd ((loop_told arcs n ends).clear clear (p, chained_join arcs p q p h.0 h.1))

  module _ (old new : List PackageRecord) (s : Sorted arcs n old new) where
    pub straight : looped arcs n ≡ false → (a : Arc K) → Mem a arcs → (of new a.to).rank < (of new a.from).rank
    straight clear a m = s.ranks.falls a m (λ e.
        let t = alone clear a.from a.to (group_apart arcs n (λ b k. (ends b k).1) a.from a.to e) in
        (loop_told arcs n ends).clear clear (a.from, subst (Chained arcs a.from) (sym t) (chained_one arcs a m)))

    module _ (many : n ≤ length new) where
      long : length (take n new) ≡ n
      long = length-take-le n new many

      front_named : (p : ℕ) → p < n → (of (take n new) p).group ≡ group arcs n p
      front_named p h =
          sym (get_or-map (λ r. r.group) (take n new) p blank 0 (omega (arith, h, long)))
          ∙ ap (λ xs. get_or xs p 0) s.groups ∙ groups_at arcs n ends p h

      module _ (no_own : (a : Arc K) → Mem a arcs → a.from ≡ a.to → ⊥) where
        own_clear : own_names (take n new) ≡ true → Loop arcs → ⊥
        own_clear e (p, (c, some, h)) = go c some h
          where
            own : (q : ℕ) → q < n → group arcs n q ≡ q
            own q k = sym (front_named q k) ∙ eqb-true (of (take n new) q).group q (every_sound (λ i. eqb (of (take n new) i).group i) (length (take n new)) e q (omega (arith, k, long)))

            tied : (a : Arc K) → Mem a arcs → Chained arcs a.to a.from → ⊥
            tied a m back =
                let b = ends a m in
                no_own a m (sym (own a.from b.0) ∙ group_one arcs n (λ x k. (ends x k).1) a.from a.to (inr (chained_one arcs a m, back)) ∙ own a.to b.1)

            go : (c : List (Arc K)) → 0 < length c → IsChain arcs p p c → ⊥
            go [] some h = absurd (omega arith)
            go (a ∷ []) some h = no_own a h.0 (h.1 ∙ sym h.2)
            go (a ∷ b ∷ d) some h = tied a h.0 (b ∷ d, omega arith, subst (λ x. IsChain arcs a.to x (b ∷ d)) (sym h.1) h.2)

        clear_own : looped arcs n ≡ false → own_names (take n new) ≡ true
        clear_own clear = every_full (λ i. eqb (of (take n new) i).group i) (length (take n new)) (λ i lt.
            eq-eqb (of (take n new) i).group i
            (front_named i (omega (arith, lt, long)) ∙ sym (alone clear i (group arcs n i) (group_in arcs n (λ x k. (ends x k).1) i))))

        pub no_loop_is : own_names (take n new) ≡ not (looped arcs n)
        no_loop_is = both_ways (own_names (take n new)) (not (looped arcs n))
            (λ e. not_from_false (looped arcs n) (false_from_ne_true (looped arcs n) (λ l. own_clear e ((loop_told arcs n ends).found l))))
            (λ e. clear_own (not-true (looped arcs n) e))
