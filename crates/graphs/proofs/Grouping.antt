-- How the groups are made, root by root: what is true between two roots, at the start and at the end.
use Rattle.std.proofs.Common.{◌≡◌, ℕ, ◌+◌, ◌<◌, ◌≤◌, List, length, get_or, refl, ◌∙◌, ⊎_elim, arith}
use Rattle.std.proofs.lemmas.List.Edits.{length-between}
use Rattle.std.proofs.lemmas.Bool.{cases_lt}
use Rattle.std.specs.List.{between}
use Rattle.graphs.specs.Records.{PackageRecord, of}
use Rattle.graphs.specs.Searches.{Reach, Marked, Fresh, Closed, Grown, Whole, Finished, Classified, Rising, Lists, sorted_record}
use Rattle.graphs.proofs.Parts.{part_place, all_from, all_of}
use Rattle.graphs.proofs.White.{white_zeros}
use Rattle.graphs.proofs.Whole.{marked_inside, whole_none, whole_more, whole_all}
use Rattle.graphs.proofs.Turned.{back_to_root}
use Rattle.graphs.proofs.Classes.{classified_none, classified_more, classified_as, rising_more}

-- between two roots: g groups are entered, which have the first c packages of the order;
-- the roots from the k-th on were taken, and the records rs₀ from n on are as they were
pub record Grouping (E : ℕ → ℕ → Type 0) (n : ℕ) (f m o : List ℕ) (c k : ℕ) (rs₀ rs : List PackageRecord) (g : ℕ) : Type 0 where
  pub marks : length m ≡ n
  pub order : n ≤ length o
  pub whole : Whole E m o c
  pub classified : Classified E (Marked m) rs g
  pub few : g ≤ c
  pub taken : (i : ℕ) → k ≤ i → i < length f → Marked m (get_or f i 0)
  pub beyond : (v : ℕ) → n ≤ v → of rs v ≡ of rs₀ v
  pub rising : Rising rs o c

pub grouping_none : (E : ℕ → ℕ → Type 0) (n : ℕ) (f m o : List ℕ) (rs : List PackageRecord) → length m ≡ n → n ≤ length o → ((v : ℕ) → get_or m v 0 ≡ 0) → Grouping E n f m o 0 (length f) rs rs 0
grouping_none E n f m o rs long room zeros = record {
  marks = long;
  order = room;
  whole = whole_none E m o (white_zeros m zeros) zeros;
  classified = classified_none E m rs zeros;
  few = omega arith;
  taken = λ i l h. absurd (omega (arith, l, h));
  beyond = λ v h. refl;
  rising = λ i j l h. absurd (omega (arith, h));
}

-- one more root is taken
taken_more : (f m : List ℕ) (k k' : ℕ) → k ≡ k' + 1 → ((i : ℕ) → k ≤ i → i < length f → Marked m (get_or f i 0)) → Marked m (get_or f k' 0) → (i : ℕ) → k' ≤ i → i < length f → Marked m (get_or f i 0)
taken_more f m k k' next taken seen i l h =
    ⊎_elim
    (λ (lt : i < k). let e : i ≡ k' = omega (arith, l, lt, next) in rw e seen)
    (λ ge. taken i ge h)
    (cases_lt i k)

module _ {E : ℕ → ℕ → Type 0} {n : ℕ} {f m o : List ℕ} {c k : ℕ} {rs₀ rs : List PackageRecord} {g : ℕ}
    (s : Grouping E n f m o c k rs₀ rs g) (k' : ℕ) (next : k ≡ k' + 1) where
  -- a root that was seen before adds no group
  pub grouping_same : Marked m (get_or f k' 0) → Grouping E n f m o c k' rs₀ rs g
  grouping_same seen = record {
    marks = s.marks;
    order = s.order;
    whole = s.whole;
    classified = s.classified;
    few = s.few;
    taken = taken_more f m k k' next s.taken seen;
    beyond = s.beyond;
    rising = s.rising;
  }

  module _ (k_in : k ≤ length f) (heads : (a b : ℕ) → E a b → b < n) (fin : Finished E n f (length f))
      {m' o' : List ℕ} {c' : ℕ} (marks : length m' ≡ length m) (order : length o' ≡ length o)
      (grown : Grown E (get_or f k' 0) m o c m' o' c') (closed : Closed E m' o' c')
      (unseen : get_or m (get_or f k' 0) 0 ≡ 0) (seen : Marked m' (get_or f k' 0)) where
    after : Whole E m' o' c'
    after = whole_more marks s.whole grown closed

    -- the order has room for what the visit added
    pub room : c' ≤ length o'
    room = omega (arith, after.tally, marks, order, s.marks, s.order)

    -- the visit added packages
    inside : (j : ℕ) → c ≤ j → j < c' → get_or o' j 0 < n
    inside j l h = omega (arith, marked_inside m' (get_or o' j 0) (grown.marked j l h), marks, s.marks)

    pub part_inside : (i : ℕ) → i < length (between c c' o') → get_or (between c c' o') i 0 < n
    part_inside = all_of o' c c' room (λ x. x < n) inside

    pub part_some : 0 < length (between c c' o')
    part_some =
        let l = grown.listed (get_or f k' 0) unseen seen in
        omega (arith, l.1, l.2, length-between o' c c' room)

    -- so there are more packages than groups before it
    pub fewer : g < n
    fewer =
        let l = grown.listed (get_or f k' 0) unseen seen in
        omega (arith, l.1, l.2, s.few, after.tally, marks, s.marks)

    back : (v : ℕ) → Reach (Fresh E m) (get_or f k' 0) v → Reach E v (get_or f k' 0)
    back v r = back_to_root E n f (length f) fin heads k' (omega (arith, next, k_in)) m (λ i l h. s.taken i (omega (arith, l, next)) h) r

    -- the packages that the visit added are entered as a group
    module _ (rs' : List PackageRecord) (shared : PackageRecord) (is : shared ≡ sorted_record shared.group g) (g' : ℕ) (one_more : g' ≡ g + 1)
        (entered : (i : ℕ) → i < length (between c c' o') → of rs' (get_or (between c c' o') i 0) ≡ shared)
        (others : (v : ℕ) → ((i : ℕ) → i < length (between c c' o') → get_or (between c c' o') i 0 ≡ v → ⊥) → of rs' v ≡ of rs v)
        (name_in : (i : ℕ) × (i < length (between c c' o')) × (get_or (between c c' o') i 0 ≡ shared.group))
        (name_least : (i : ℕ) → i < length (between c c' o') → shared.group ≤ get_or (between c c' o') i 0) where
      all_entered : (j : ℕ) → c ≤ j → j < c' → of rs' (get_or o' j 0) ≡ sorted_record shared.group g
      all_entered j l h = all_from o' c c' room (λ x. of rs' x ≡ shared) entered j l h ∙ is

      the_others : (v : ℕ) → ((j : ℕ) → c ≤ j → j < c' → get_or o' j 0 ≡ v → ⊥) → of rs' v ≡ of rs v
      the_others v none = others v (all_of o' c c' room (λ x. x ≡ v → ⊥) none)

      the_name : (j : ℕ) × (c ≤ j) × (j < c') × (get_or o' j 0 ≡ shared.group)
      the_name = let l = part_place o' c c' room name_in.0 name_in.1 in (l.0, l.1, l.2, l.3 ∙ name_in.2)

      more : Classified E (Marked m') rs' (g + 1)
      more = classified_more E (get_or f k' 0) m o c m' o' c' s.whole after grown unseen seen back rs rs' g shared.group s.classified
          all_entered the_others the_name (all_from o' c c' room (λ x. shared.group ≤ x) name_least)

      pub grouping_more : Grouping E n f m' o' c' k' rs₀ rs' g'
      grouping_more = record {
        marks = marks ∙ s.marks;
        order = omega (arith, order, s.order);
        whole = after;
        classified = rw one_more more;
        few = omega (arith, one_more, s.few, the_name.1, the_name.2);
        taken = taken_more f m' k k' next (λ i l h. grown.stays (get_or f i 0) (s.taken i l h)) seen;
        beyond = λ v h. the_others v (λ j l b at. omega (arith, inside j l b, at, h)) ∙ s.beyond v h;
        rising = rising_more E (get_or f k' 0) m o c m' o' c' s.whole after grown unseen seen back rs rs' g shared.group s.classified
            all_entered the_others the_name (all_from o' c c' room (λ x. shared.group ≤ x) name_least) s.rising;
      }

-- every root is taken
module _ {E : ℕ → ℕ → Type 0} {n : ℕ} {f m o : List ℕ} {c k : ℕ} {rs₀ rs : List PackageRecord} {g : ℕ}
    (s : Grouping E n f m o c k rs₀ rs g) (last : k ≤ 0) (fin : Finished E n f (length f)) where
  all : (v : ℕ) → v < n → Marked m v
  all v h = let l = fin.all v h in rw l.2 at (s.taken l.0 (omega (arith, last)) l.1)

  counted : c ≡ n
  counted = whole_all (λ v h. all v (omega (arith, h, s.marks))) s.whole ∙ s.marks

  pub all_classified : Classified E (λ v. v < n) rs g
  all_classified = classified_as E (Marked m) (λ v. v < n) rs g (λ v h. omega (arith, marked_inside m v h, s.marks)) all s.classified

  pub all_rising : Rising rs o n
  all_rising = rw counted at s.rising

  pub all_listed : Lists o n
  all_listed v h = let l = s.whole.listed v (all v h) in (l.0, omega (arith, l.1, counted), l.2)
