-- What follows of a call that ended by what was decided of it, for each database.
use Rattle.std.proofs.Common.{◌≡◌, ◌≢◌, ℕ, Bool, true, false, List, Option, Some, IsSome, refl, sym, subst}
use Rattle.db_image.specs.Database.{Outcome}
use Rattle.db_image.specs.Ends.{EndsBy, IsDecided, IsShort, KeepsGrammar, end_by, end_of}
use Rattle.db_image.specs.Images.{OnlyReads}
use Rattle.db_image.specs.declared.draft_services.CallEnd.{CallEnd}
use Rattle.db_image.specs.declared.draft_services.CallEnd.TheVariants as end
use Rattle.db_image.specs.declared.faults.RecordFault.{RecordFault}
use Rattle.db_image.specs.declared.faults.RecordFault.TheVariants as fault
use Rattle.db_image.specs.declared.images.ImageRead.{Ghosts}

-- its answer is short
pub decided_short : (ended : CallEnd) → IsDecided ended → IsShort ended
decided_short (end.Done told) h = h
decided_short (end.Rule number) h = tt
decided_short end.Malformed h = tt
decided_short (end.BadRecord at) h = tt
decided_short end.DiskFault h = tt
decided_short end.NoMemory h = tt

-- it was a call
pub decided_grammar : (ended : CallEnd) (writes : Option Bool) → IsSome writes → IsDecided ended → KeepsGrammar writes ended
decided_grammar (end.Done told) writes is h = is
decided_grammar (end.Rule number) writes is h = is
decided_grammar end.Malformed writes is h = absurd h
decided_grammar (end.BadRecord at) writes is h = absurd h
decided_grammar end.DiskFault writes is h = absurd h
decided_grammar end.NoMemory writes is h = absurd h

-- a call that ended by a fault was one
pub fault_grammar : (f : RecordFault) (ended : CallEnd) (writes : Option Bool) → IsSome writes → ended ≡ end_by f → KeepsGrammar writes ended
fault_grammar fault.DiskFault ended writes is by = subst (KeepsGrammar writes) (sym by) is
fault_grammar (fault.BadRecord at) ended writes is by = subst (KeepsGrammar writes) (sym by) is
fault_grammar fault.NoMemory ended writes is by = subst (KeepsGrammar writes) (sym by) tt

-- it is no failure of what holds the image
pub decided_reads : {I : Type 0} (g : Ghosts I) (old new : I) (failed : Type 0) (ended : CallEnd) → IsDecided ended → OnlyReads g old new failed
    → OnlyReads g old new (ended ≡ end.DiskFault)
decided_reads g old new failed ended h r = record {
  held = r.held;
  size = r.size;
  came = r.came;
  never_falls = r.never_falls;
  cause = λ disk. absurd (subst IsDecided disk h);
}

pub ends_by : (o : Outcome) (ended : CallEnd) (after : Option (List ℕ)) → ended ≡ end_of o.reply → after ≡ Some o.image → EndsBy o ended after
ends_by o (end.Done told) after reply leaves = (reply, leaves)
ends_by o (end.Rule number) after reply leaves = (reply, leaves)
ends_by o end.Malformed after reply leaves = (reply, leaves)
ends_by o (end.BadRecord at) after reply leaves = (reply, leaves)
ends_by o end.DiskFault after reply leaves = tt
ends_by o end.NoMemory after reply leaves = tt

-- what is no writing call only reads
pub no_writer : (writes : Bool) → Some writes ≢ Some true → writes ≡ false
no_writer true is = absurd (is refl)
no_writer false is = refl
