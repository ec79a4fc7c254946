-- A run, call by call.
use Rattle.std.proofs.Common.{◌≡◌, ℕ, ◌+◌, ◌<◌, false, ◌||◌, List, [], ◌∷◌, ◌++◌, length, get_or, take, sym, refl, ap, ◌∙◌, subst, ap₂}
use Rattle.std.proofs.lemmas.Bool.{or_parts}
use Rattle.std.proofs.lemmas.List.{take_more}
use Rattle.labels.specs.Algebra.{Ops}
use Rattle.std.proofs.Math.Bool.{or_assoc, or-false}
use Rattle.catalogue.specs.Meanings.{Meaning}
use Rattle.graphs.specs.declared.record.PackageRecord.{PackageRecord}
use Rattle.runs.specs.Steps.{Step}
use Rattle.runs.specs.declared.step.StepFor.TheVariants.{Alter, Rounds, Eliminate, Order, Sort, Plan}
use Rattle.runs.specs.Runs.{Memory, Lengths, sizes, tabled, tables, set_left, sets_left, spares_used, some_spares_used, FiledBy, Files}
use Rattle.runs.specs.Promises.{reckoned}

module _ {K : Type 0} (o : Ops K) where
  -- the first call, and then the others
  reckoned_first : (m : Meaning K) (d : Step K) (calls : List (Step K)) → reckoned o m (d ∷ calls) ≡ reckoned o (reckoned o m (d ∷ [])) calls
  reckoned_first m (Alter d) calls = refl
  reckoned_first m (Rounds cells) calls = refl
  reckoned_first m (Eliminate cells) calls = refl
  reckoned_first m (Order cells room) calls = refl
  reckoned_first m (Sort room) calls = refl
  reckoned_first m (Plan cells room changed) calls = refl

  -- some calls, and then others
  pub reckoned_over : (m : Meaning K) (calls others : List (Step K)) → reckoned o m (calls ++ others) ≡ reckoned o (reckoned o m calls) others
  reckoned_over m [] others = refl
  reckoned_over m (d ∷ calls) others =
      reckoned_first m d (calls ++ others) ∙ reckoned_over (reckoned o m (d ∷ [])) calls others
      ∙ ap (λ k. reckoned o k others) (sym (reckoned_first m d calls))

  tables_push : (m : Meaning K) (t : Lengths) (calls : List (Step K)) (c : Step K) (old : List K)
      → tables o m t (calls ++ (c ∷ [])) old ≡ tabled o (reckoned o m calls) t c (tables o m t calls old)
  tables_push m t [] c old = refl
  tables_push m t (d ∷ calls) c old =
      tables_push (reckoned o m (d ∷ [])) t calls c (tabled o m t d old)
      ∙ ap (λ k. tabled o k t c (tables o m t (d ∷ calls) old)) (sym (reckoned_first m d calls))

  sets_push : (m : Meaning K) (t : Lengths) (calls : List (Step K)) (c : Step K) (old : List ℕ)
      → sets_left o m t (calls ++ (c ∷ [])) old ≡ set_left o (reckoned o m calls) t c (sets_left o m t calls old)
  sets_push m t [] c old = refl
  sets_push m t (d ∷ calls) c old =
      sets_push (reckoned o m (d ∷ [])) t calls c (set_left o m t d old)
      ∙ ap (λ k. set_left o k t c (sets_left o m t (d ∷ calls) old)) (sym (reckoned_first m d calls))

  spares_push : (m : Meaning K) (t : Lengths) (calls : List (Step K)) (c : Step K)
      → some_spares_used o m t (calls ++ (c ∷ [])) ≡ (some_spares_used o m t calls || spares_used o (reckoned o m calls) t c)
  spares_push m t [] c = or-false (spares_used o m t c)
  spares_push m t (d ∷ calls) c =
      let here = spares_used o m t d in
      let now = reckoned o m (d ∷ []) in
      ap (λ b. here || b) (spares_push now t calls c) ∙ sym (or_assoc here (some_spares_used o now t calls) (spares_used o (reckoned o now calls) t c))
      ∙ ap (λ k. (here || some_spares_used o now t calls) || spares_used o k t c) (sym (reckoned_first m d calls))

  -- one call more, after what the calls before it left
  files_push : (m : Meaning K) (t : Lengths) (calls : List (Step K)) (c : Step K) (old mid new : List PackageRecord) (words free words' : List ℕ)
      → Files o m t calls old mid words free → FiledBy (reckoned o m calls) t c mid new free words' → Files o m t (calls ++ (c ∷ [])) old new words words'
  files_push m t [] c old mid new words free words' f last =
      (new, words', subst (λ w. FiledBy m t c old new w words') f.1 (subst (λ r. FiledBy m t c r new free words') f.0 last), (refl, refl))
  files_push m t (d ∷ calls) c old mid new words free words' f last = (
    f.0,
    f.1,
    f.2,
    files_push (reckoned o m (d ∷ [])) t calls c f.0 mid new f.1 free words' f.3
        (subst (λ k. FiledBy k t c mid new free words') (reckoned_first m d calls) last),
  )

  module _ (m : Meaning K) (calls : List (Step K)) (i : ℕ) (c : Step K) (within : i < length calls) (is : c ≡ get_or calls i c) where
    more : take (i + 1) calls ≡ take i calls ++ (c ∷ [])
    more = take_more calls i c within ∙ ap (λ d. take i calls ++ (d ∷ [])) (sym is)

    pub reckon_more : (now : Meaning K) → now ≡ reckoned o m (take i calls) → reckoned o now (c ∷ []) ≡ reckoned o m (take (i + 1) calls)
    reckon_more now e = ap (λ k. reckoned o k (c ∷ [])) e ∙ sym (ap (reckoned o m) more ∙ reckoned_over m (take i calls) (c ∷ []))

    pub tables_more : (t : Lengths) (now : Meaning K) (old new : List K) → now ≡ reckoned o m (take i calls) → new ≡ tables o m t (take i calls) old
        → tabled o now t c new ≡ tables o m t (take (i + 1) calls) old
    tables_more t now old new e f =
        ap₂ (λ k cells. tabled o k t c cells) e f ∙ sym (ap (λ cs. tables o m t cs old) more ∙ tables_push m t (take i calls) c old)

    pub sets_more : (t : Lengths) (now : Meaning K) (old new : List ℕ) → now ≡ reckoned o m (take i calls) → new ≡ sets_left o m t (take i calls) old
        → set_left o now t c new ≡ sets_left o m t (take (i + 1) calls) old
    sets_more t now old new e f =
        ap₂ (λ k bytes. set_left o k t c bytes) e f ∙ sym (ap (λ cs. sets_left o m t cs old) more ∙ sets_push m t (take i calls) c old)

    pub spares_more : (t : Lengths) (now : Meaning K) → now ≡ reckoned o m (take i calls) → some_spares_used o m t (take (i + 1) calls) ≡ false
        → (some_spares_used o m t (take i calls) ≡ false) × (spares_used o now t c ≡ false)
    spares_more t now e none =
        let parts = or_parts _ _ (sym (ap (some_spares_used o m t) more ∙ spares_push m t (take i calls) c) ∙ none) in
        (parts.0, ap (λ k. spares_used o k t c) e ∙ parts.1)

    pub files_more : (t : Lengths) (now : Meaning K) (old mid new : List PackageRecord) (words free words' : List ℕ) → now ≡ reckoned o m (take i calls)
        → Files o m t (take i calls) old mid words free → FiledBy now t c mid new free words'
        → Files o m t (take (i + 1) calls) old new words words'
    files_more t now old mid new words free words' e f last =
        subst (λ cs. Files o m t cs old new words words') (sym more)
        (files_push m t (take i calls) c old mid new words free words' f (subst (λ k. FiledBy k t c mid new free words') e last))

pub same_sizes : {K : Type 0} (a b : Memory K) → length a.table ≡ length b.table → length a.changed ≡ length b.changed → length a.found ≡ length b.found
    → length a.records ≡ length b.records → length a.words ≡ length b.words → length a.sets ≡ length b.sets → sizes a ≡ sizes b
same_sizes a b table changed found records words sets i =
    record { table = table i; changed = changed i; found = found i; records = records i; words = words i; sets = sets i }
