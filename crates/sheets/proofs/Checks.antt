-- The first check not met.
use Rattle.std.proofs.Common.{◌≡◌, ℕ, zero, suc, ◌+◌, ◌-◌, ◌<◌, Bool, true, false, List, [], ◌∷◌, ◌++◌, map, sym, refl, ap, ◌∙◌, add-zero, arith}
use Rattle.std.specs.List.{range_with_len, flat_map}
use Rattle.std.proofs.lemmas.List.{map-append}
use Rattle.sheets.specs.Sheets.{first_unmet, check}

pub unmet_met : (c : ℕ) (cs : List ℕ) → c ≡ 0 → first_unmet (c ∷ cs) ≡ first_unmet cs
unmet_met c cs e = ap (λ k. first_unmet (k ∷ cs)) e

pub unmet_here : (c k : ℕ) (cs : List ℕ) → c ≡ suc k → first_unmet (c ∷ cs) ≡ c
unmet_here c k cs e = ap (λ x. first_unmet (x ∷ cs)) e ∙ sym e

pub unmet_append : (xs ys : List ℕ) → first_unmet xs ≡ 0 → first_unmet (xs ++ ys) ≡ first_unmet ys
unmet_append [] ys e = refl
unmet_append (zero ∷ xs) ys e = unmet_append xs ys e
unmet_append (suc k ∷ xs) ys e = absurd (omega arith)

pub unmet_stop : (xs ys : List ℕ) (k : ℕ) → first_unmet xs ≡ suc k → first_unmet (xs ++ ys) ≡ suc k
unmet_stop [] ys k e = absurd (omega arith)
unmet_stop (zero ∷ xs) ys k e = unmet_stop xs ys k e
unmet_stop (suc x ∷ xs) ys k e = e

-- a loop's step and end
pub counting_more : (p n : ℕ) → p < n → range_with_len p (n - p) ≡ p ∷ range_with_len (p + 1) (n - (p + 1))
counting_more p n h =
    let e : n - p ≡ suc (n - (p + 1)) = omega arith in
    ap (range_with_len p) e

-- each of the checks is met
pub head_met : (c : ℕ) (cs : List ℕ) → first_unmet (c ∷ cs) ≡ 0 → (c ≡ 0) × (first_unmet cs ≡ 0)
head_met zero cs e = (refl, e)
head_met (suc c) cs e = absurd (omega arith)

pub met_each : (f : ℕ → ℕ) (a n : ℕ) → first_unmet (map f (range_with_len a n)) ≡ 0 → (i : ℕ) → i < n → f (a + i) ≡ 0
met_each f a zero e i h = absurd (omega arith)
met_each f a (suc n) e zero h = ap f (add-zero a) ∙ (head_met (f a) (map f (range_with_len (a + 1) n)) e).0
met_each f a (suc n) e (suc i) h =
    let at : a + suc i ≡ a + 1 + i = omega arith in
    ap f at ∙ met_each f (a + 1) n (head_met (f a) (map f (range_with_len (a + 1) n)) e).1 i (omega arith)

pub passed : (k : ℕ) (b : Bool) (cs : List ℕ) → b ≡ true → first_unmet (check (suc k) b ∷ cs) ≡ first_unmet cs
passed k b cs e = ap (λ t. first_unmet (check (suc k) t ∷ cs)) e

pub failed : (k : ℕ) (b : Bool) (cs : List ℕ) → b ≡ false → first_unmet (check (suc k) b ∷ cs) ≡ suc k
failed k b cs e = ap (λ t. first_unmet (check (suc k) t ∷ cs)) e

pub met_cons : (k : ℕ) (b : Bool) (cs : List ℕ) → first_unmet (check (suc k) b ∷ cs) ≡ 0 → (b ≡ true) × (first_unmet cs ≡ 0)
met_cons k true cs e = (refl, e)
met_cons k false cs e = absurd (omega arith)

pub met_append : (xs ys : List ℕ) → first_unmet (xs ++ ys) ≡ 0 → (first_unmet xs ≡ 0) × (first_unmet ys ≡ 0)
met_append [] ys e = (refl, e)
met_append (zero ∷ xs) ys e = met_append xs ys e
met_append (suc k ∷ xs) ys e = absurd (omega arith)

pub stopped : (c v : ℕ) (cs : List ℕ) → c ≡ v → 0 < v → first_unmet (c ∷ cs) ≡ v
stopped c zero cs e h = absurd (omega arith)
stopped c (suc k) cs e h = unmet_here c k cs e ∙ e

pub stopped_in : (xs ys : List ℕ) (v : ℕ) → first_unmet xs ≡ v → 0 < v → first_unmet (xs ++ ys) ≡ v
stopped_in xs ys zero e h = absurd (omega arith)
stopped_in xs ys (suc k) e h = unmet_stop xs ys k e

-- checks of items that are counted, and of lists of items that are joined
module _ {X : Type 0} (chk : X → ℕ) where
  module _ (item : ℕ → X) (j many : ℕ) (h : j < many) where
    split_items : first_unmet (map chk (map item (range_with_len j (many - j)))) ≡ first_unmet (chk (item j) ∷ map chk (map item (range_with_len (j + 1) (many - (j + 1)))))
    split_items = ap (λ xs. first_unmet (map chk (map item xs))) (counting_more j many h)

    pub items_more : chk (item j) ≡ 0 → first_unmet (map chk (map item (range_with_len j (many - j)))) ≡ first_unmet (map chk (map item (range_with_len (j + 1) (many - (j + 1)))))
    items_more e = split_items ∙ unmet_met (chk (item j)) _ e

    pub items_stop : (v : ℕ) → chk (item j) ≡ v → 0 < v → first_unmet (map chk (map item (range_with_len j (many - j)))) ≡ v
    items_stop v e pos = split_items ∙ stopped (chk (item j)) v _ e pos

  module _ (list : ℕ → List X) (p n : ℕ) (h : p < n) where
    split_lists : first_unmet (map chk (flat_map list (range_with_len p (n - p)))) ≡ first_unmet (map chk (list p) ++ map chk (flat_map list (range_with_len (p + 1) (n - (p + 1)))))
    split_lists = ap (λ xs. first_unmet (map chk (flat_map list xs))) (counting_more p n h) ∙ ap first_unmet (map-append chk (list p) (flat_map list (range_with_len (p + 1) (n - (p + 1)))))

    pub lists_more : first_unmet (map chk (list p)) ≡ 0 → first_unmet (map chk (flat_map list (range_with_len p (n - p)))) ≡ first_unmet (map chk (flat_map list (range_with_len (p + 1) (n - (p + 1)))))
    lists_more e = split_lists ∙ unmet_append (map chk (list p)) _ e

    pub lists_stop : (v : ℕ) → first_unmet (map chk (list p)) ≡ v → 0 < v → first_unmet (map chk (flat_map list (range_with_len p (n - p)))) ≡ v
    lists_stop v e pos = split_lists ∙ stopped_in (map chk (list p)) _ v e pos
