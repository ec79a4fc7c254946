-- A ledger's arcs.
use Rattle.std.proofs.Common.{◌≡◌, ℕ, ◌+◌, ◌-◌, ◌<◌, List, [], ◌∷◌, ◌++◌, length, take, set, Ok, sym, subst, add-one, arith, length-set, take-suc-set}
use Rattle.labels.specs.Algebra.{Ops, Exact}
use Rattle.paths.specs.declared.arc.Arc.{Arc}
use Rattle.paths.specs.Arcs.{arc}
use Rattle.catalogue.specs.Meanings.{Sound}
use Rattle.catalogue.specs.Calls.{admit_answer, admitted}
use Rattle.catalogue.specs.Ledgers.{ledger, LedgerOk}
use Rattle.catalogue.proofs.Accepting.{admits, admitted_sound}

module _ {L : Type 0} where
  one_more : (len : ℕ) (arcs : List (Arc L)) (a : Arc L) → len < length arcs → take (len + 1) (set arcs len a) ≡ take len arcs ++ (a ∷ [])
  one_more len arcs a h = rw add-one (take-suc-set arcs len a h)

  module _ (o : Ops L) (x : Exact o) (n len : ℕ) (arcs : List (Arc L)) (f t : ℕ) (l : L) (ok : LedgerOk o n len arcs) (yes : admit_answer o (ledger n len arcs) f t l ≡ Ok tt) where
    pub has_room : len < length arcs
    has_room = let room = (admits o (ledger n len arcs) f t l yes).room in omega arith

    entered : ledger n (len + 1) (set arcs len (arc f t l)) ≡ admitted (ledger n len arcs) f t l
    entered =
        let stock = one_more len arcs (arc f t l) has_room in
        let places : length (set arcs len (arc f t l)) - (len + 1) ≡ (length arcs - len) - 1 = simp length-set (omega arith) in
        simp (stock, places)

    pub entry_ok : LedgerOk o n (len + 1) (set arcs len (arc f t l))
    entry_ok =
        let room = has_room in
        record {
          filled = simp length-set (omega arith);
          sound = subst (Sound o) (sym entered) (admitted_sound o x (ledger n len arcs) f t l ok.sound (admits o (ledger n len arcs) f t l yes));
        }
