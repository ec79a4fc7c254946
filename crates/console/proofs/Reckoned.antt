-- Lines one after the other are answered as the library reckons.
use Rattle.std.proofs.Common.{◌≡◌, ℕ, zero, suc, ◌+◌, ◌<◌, ◌≤◌, cond, List, [], ◌∷◌, ◌++◌, map, length, get_or, set, take, drop, Some, None, Err, Option, Result, ok_or, option_and_then, refl, sym, ap, ◌∙◌, ap₂, arith, le-ltb}
use Rattle.std.proofs.lemmas.List.{drop-map, length-map, map-append, map_push, take_more, take_more_set, take-append-drop}
use Rattle.std.proofs.Math.Seq.{take-length}
use Rattle.std.specs.Option.{option_map_or}
use Rattle.std.specs.Result.{result_unwrap_or}
use Rattle.labels.specs.declared.kinds.Minutes.{Minutes}
use Rattle.labels.specs.Kinds.{minutes_ops}
use Rattle.catalogue.specs.Meanings.{Meaning}
use Rattle.catalogue.specs.Refusals.{answer, on_ok}
use Rattle.catalogue.specs.declared.call.Call.{Call}
use Rattle.catalogue.specs.declared.refusal.Refusal.{Refusal}
use Rattle.catalogue.specs.Runs.{reckon, step}
use Rattle.graphs.specs.declared.record.PackageRecord.{PackageRecord}
use Rattle.runs.specs.Runs.{Lengths}
use Rattle.console.specs.declared.command.Command.{Command}
use Rattle.console.specs.declared.reply.Reply.{Reply}
use Rattle.console.specs.Grammar.{command_of}
use Rattle.console.specs.Sessions.{room, call_of, left, obeyed, after}
use Rattle.console.specs.Programs.{answers_of, after_all, calls_in, calls_of, follow_leaves, ReckonsFrom}

-- one line more
answers_push : (m : Meaning Minutes) (t : Lengths) (xs : List (List ℕ)) (y : List ℕ) → answers_of m t (xs ++ (y ∷ [])) ≡ answers_of m t xs ++ (obeyed (after_all m xs) t y ∷ [])
answers_push m t [] y = refl
answers_push m t (x ∷ xs) y = ap (λ r. obeyed m t x ∷ r) (answers_push (after m x) t xs y)

after_push : (m : Meaning Minutes) (xs : List (List ℕ)) (y : List ℕ) → after_all m (xs ++ (y ∷ [])) ≡ after (after_all m xs) y
after_push m [] y = refl
after_push m (x ∷ xs) y = after_push (after m x) xs y

pub same_room : (table table' : List Minutes) (records records' : List PackageRecord) (words words' sets sets' : List ℕ)
    → length table ≡ length table' → length records ≡ length records' → length words ≡ length words' → length sets ≡ length sets'
    → room table records words sets ≡ room table' records' words' sets'
same_room table table' records records' words words' sets sets' t r w s =
    λ i. record { table = t i; changed = 0; found = 0; records = r i; words = w i; sets = s i }

pub after_more : (m : Meaning Minutes) (lines : List (List ℕ)) (k : ℕ) → k < length lines → after_all m (take (k + 1) lines) ≡ after (after_all m (take k lines)) (get_or lines k [])
after_more m lines k h = ap (after_all m) (take_more lines k [] h) ∙ after_push m (take k lines) (get_or lines k [])

pub told_more : (m : Meaning Minutes) (t : Lengths) (lines : List (List ℕ)) (k : ℕ) (told : List (Result Reply Refusal)) (r : Result Reply Refusal)
    → k < length lines → k < length told
    → map (λ r. answer r) (take k told) ≡ answers_of m t (take k lines)
    → answer r ≡ obeyed (after_all m (take k lines)) t (get_or lines k [])
    → map (λ r. answer r) (take (k + 1) (set told k r)) ≡ answers_of m t (take (k + 1) lines)
told_more m t lines k told r h room before is =
    ap (map (λ r. answer r)) (take_more_set told k r room) ∙ map_push (λ r. answer r) (take k told) r
    ∙ ap₂ (λ xs x. xs ++ (x ∷ [])) before is
    ∙ sym (ap (answers_of m t) (take_more lines k [] h) ∙ answers_push m t (take k lines) (get_or lines k []))

pub told_all : (m : Meaning Minutes) (t : Lengths) (lines : List (List ℕ)) (k : ℕ) (told old : List (Result Reply Refusal))
    → k ≡ length lines → length lines ≤ length old
    → map (λ r. answer r) (take k told) ≡ answers_of m t (take k lines)
    → drop k told ≡ drop k old
    → map (λ r. answer r) told ≡ follow_leaves m t lines (map (λ r. answer r) old)
told_all m t lines k told old is room before rest =
    ap (map (λ r. answer r)) (sym (take-append-drop k told)) ∙ map-append (λ r. answer r) (take k told) (drop k told)
    ∙ ap₂ (λ xs ys. xs ++ ys)
    (before ∙ ap (answers_of m t) (ap (λ j. take j lines) is ∙ take-length lines))
    (ap (map (λ r. answer r)) rest ∙ sym (drop-map (λ r. answer r) k old) ∙ ap (λ j. drop j (map (λ r. answer r) old)) is)
    ∙ sym (ap (λ b. cond b (map (λ r. answer r) old) (answers_of m t lines ++ drop (length lines) (map (λ r. answer r) old)))
    (le-ltb (length (map (λ r. answer r) old)) (length lines) (omega (arith, length-map old (λ r. answer r)))))

reckon_over : (m : Meaning Minutes) (cs ds : List (Call Minutes)) → reckon minutes_ops m (cs ++ ds) ≡ reckon minutes_ops (reckon minutes_ops m cs) ds
reckon_over m [] ds = refl
reckon_over m (c ∷ cs) ds = reckon_over (step minutes_ops m c) cs ds

-- a line leaves what its call does
after_reckoned : (m : Meaning Minutes) (line : List ℕ) → after m line ≡ reckon minutes_ops m (calls_in line)
after_reckoned m line = go (command_of line)
  where
    called : (q : Option (Call Minutes)) → option_map_or (step minutes_ops m) q m ≡ reckon minutes_ops m (option_map_or (λ c. c ∷ []) q [])
    called None = refl
    called (Some c) = refl

    go : (o : Option Command) → result_unwrap_or (on_ok (left m) (ok_or o 16)) m ≡ reckon minutes_ops m (option_map_or (λ c. c ∷ []) (option_and_then call_of o) [])
    go None = refl
    go (Some c) = called (call_of c)

line_over : (m : Meaning Minutes) (line : List ℕ) (cs : List (Call Minutes)) → reckon minutes_ops (after m line) cs ≡ reckon minutes_ops m (calls_in line ++ cs)
line_over m line cs = ap (λ k. reckon minutes_ops k cs) (after_reckoned m line) ∙ sym (reckon_over m (calls_in line) cs)

all_left : (m : Meaning Minutes) (lines : List (List ℕ)) → after_all m lines ≡ reckon minutes_ops m (calls_of lines)
all_left m [] = refl
all_left m (line ∷ lines) = all_left (after m line) lines ∙ line_over m line (calls_of lines)

each_told : (m : Meaning Minutes) (t : Lengths) (lines : List (List ℕ)) (k : ℕ) → k < length lines
    → get_or (answers_of m t lines) k (Err 16) ≡ obeyed (reckon minutes_ops m (calls_of (take k lines))) t (get_or lines k [])
each_told m t [] k h = absurd (omega (arith, h))
each_told m t (line ∷ lines) zero h = refl
each_told m t (line ∷ lines) (suc k) h =
    each_told (after m line) t lines k (omega (arith, h)) ∙ ap (λ n. obeyed n t (get_or lines k [])) (line_over m line (calls_of (take k lines)))

pub reckons : (first : Result (Meaning Minutes) ℕ) (t : Lengths) (lines : List (List ℕ)) → ReckonsFrom first t lines
unfolding ReckonsFrom
reckons first t lines m e = record { left = all_left m lines; each = each_told m t lines }
