use Rattle.std.proofs.Common.{FitsSigned, Some, ap, refl, rules}
use Rattle.std.specs.Int.{w32}
use Rattle.std.proofs.lemmas.Int.{to_z-of_z}
use Rattle.vldb_entries.specs.Location.{Location}
use Rattle.vl_service.specs.Meaning.{named_verdict, of_id, told, verdict}
use Rattle.vl_database.specs.Judged.{by_id_look, named_look}
use Rattle.vl_database.proofs.Costs.{cost_of}
use Rattle.vl_database.proofs.Served.{look_ok, no_reader}
use Rattle.vl_database.proofs.service.answer.Goals as goal

pub returns-in-GetEntryById-clause-meant : goal.returns-in-GetEntryById-clause-meant
unfolding verdict
returns-in-GetEntryById-clause-meant g c =
    let fits : FitsSigned w32 c.in-GetEntryById.volume_type = search rules in
    let meant = c.entry_by_id.ensures.meant in
    look_ok c.entry_by_id.result c.args.d.now.bytes c.entry_by_id.new.d.bytes
    (λ (s : Location). of_id s c.in-GetEntryById.volume_type c.in-GetEntryById.id told)
    (λ (s : Location). verdict s c.args.now (Some c.args.call)) c.entry_by_id.ensures.frame.same.bytes
    (λ s. by_id_look s c.in-GetEntryById.volume_type c.in-GetEntryById.id)
    (λ s. ap (λ call. verdict s c.args.now (Some call)) c.in-GetEntryById.is)
    (simp to_z-of_z at meant)

pub returns-in-GetEntryByName-clause-meant : goal.returns-in-GetEntryByName-clause-meant
unfolding verdict
returns-in-GetEntryByName-clause-meant g c =
    let meant = c.entry_by_name.ensures.meant in
    look_ok c.entry_by_name.result c.args.d.now.bytes c.entry_by_name.new.d.bytes
    (λ (s : Location). named_verdict s c.in-GetEntryByName.name)
    (λ (s : Location). verdict s c.args.now (Some c.args.call)) c.entry_by_name.ensures.frame.same.bytes
    (λ s. named_look s c.in-GetEntryByName.name) (λ s. ap (λ call. verdict s c.args.now (Some call)) c.in-GetEntryByName.is)
    (rw c.as_slice.ensures at meant)

pub returns-in-GetNewVolumeId-clause-rests : goal.returns-in-GetNewVolumeId-clause-rests
returns-in-GetNewVolumeId-clause-rests g c = λ reads. absurd (no_reader c.args.call _ c.in-GetNewVolumeId.is refl reads)

pub returns-in-CreateEntry-clause-rests : goal.returns-in-CreateEntry-clause-rests
returns-in-CreateEntry-clause-rests g c = λ reads. absurd (no_reader c.args.call _ c.in-CreateEntry.is refl reads)

pub returns-in-DeleteEntry-clause-rests : goal.returns-in-DeleteEntry-clause-rests
returns-in-DeleteEntry-clause-rests g c = λ reads. absurd (no_reader c.args.call _ c.in-DeleteEntry.is refl reads)

pub returns-in-ReplaceEntry-clause-rests : goal.returns-in-ReplaceEntry-clause-rests
returns-in-ReplaceEntry-clause-rests g c = λ reads. absurd (no_reader c.args.call _ c.in-ReplaceEntry.is refl reads)

pub returns-in-SetLock-clause-rests : goal.returns-in-SetLock-clause-rests
returns-in-SetLock-clause-rests g c = λ reads. absurd (no_reader c.args.call _ c.in-SetLock.is refl reads)

pub returns-in-ReleaseLock-clause-rests : goal.returns-in-ReleaseLock-clause-rests
returns-in-ReleaseLock-clause-rests g c = λ reads. absurd (no_reader c.args.call _ c.in-ReleaseLock.is refl reads)

pub returns-in-ChangeAddr-clause-rests : goal.returns-in-ChangeAddr-clause-rests
returns-in-ChangeAddr-clause-rests g c = λ reads. absurd (no_reader c.args.call _ c.in-ChangeAddr.is refl reads)

pub returns-in-GetEntryById-clause-cost : goal.returns-in-GetEntryById-clause-cost
returns-in-GetEntryById-clause-cost g c =
    cost_of g.I.ImageRead (Some c.args.call) _ c.args.d.now c.entry_by_id.new.d (ap Some c.in-GetEntryById.is) c.entry_by_id.ensures.cost

pub returns-in-GetEntryByName-clause-cost : goal.returns-in-GetEntryByName-clause-cost
returns-in-GetEntryByName-clause-cost g c =
    let cost = c.entry_by_name.ensures.cost in
    cost_of g.I.ImageRead (Some c.args.call) _ c.args.d.now c.entry_by_name.new.d (ap Some c.in-GetEntryByName.is)
    (rw c.as_slice.ensures at cost)

pub returns-in-GetNewVolumeId-clause-cost : goal.returns-in-GetNewVolumeId-clause-cost
returns-in-GetNewVolumeId-clause-cost g c =
    cost_of g.I.ImageRead (Some c.args.call) _ c.args.d.now c.take_volume_ids.new.d (ap Some c.in-GetNewVolumeId.is) tt

pub returns-in-CreateEntry-clause-cost : goal.returns-in-CreateEntry-clause-cost
returns-in-CreateEntry-clause-cost g c =
    cost_of g.I.ImageRead (Some c.args.call) _ c.args.d.now c.create_entry.new.d (ap Some c.in-CreateEntry.is) tt

pub returns-in-DeleteEntry-clause-cost : goal.returns-in-DeleteEntry-clause-cost
returns-in-DeleteEntry-clause-cost g c =
    cost_of g.I.ImageRead (Some c.args.call) _ c.args.d.now c.delete_entry.new.d (ap Some c.in-DeleteEntry.is) tt

pub returns-in-ReplaceEntry-clause-cost : goal.returns-in-ReplaceEntry-clause-cost
returns-in-ReplaceEntry-clause-cost g c =
    cost_of g.I.ImageRead (Some c.args.call) _ c.args.d.now c.replace_entry.new.d (ap Some c.in-ReplaceEntry.is) tt

pub returns-in-SetLock-clause-cost : goal.returns-in-SetLock-clause-cost
returns-in-SetLock-clause-cost g c =
    cost_of g.I.ImageRead (Some c.args.call) _ c.args.d.now c.set_lock.new.d (ap Some c.in-SetLock.is) tt

pub returns-in-ReleaseLock-clause-cost : goal.returns-in-ReleaseLock-clause-cost
returns-in-ReleaseLock-clause-cost g c =
    cost_of g.I.ImageRead (Some c.args.call) _ c.args.d.now c.release_lock.new.d (ap Some c.in-ReleaseLock.is) tt

pub returns-in-ListAttributes-clause-cost : goal.returns-in-ListAttributes-clause-cost
returns-in-ListAttributes-clause-cost g c =
    cost_of g.I.ImageRead (Some c.args.call) _ c.args.d.now c.list_entries.new.d (ap Some c.in-ListAttributes.is) tt

pub returns-in-GetAddrs-clause-cost : goal.returns-in-GetAddrs-clause-cost
returns-in-GetAddrs-clause-cost g c =
    cost_of g.I.ImageRead (Some c.args.call) _ c.args.d.now c.all_addresses.new.d (ap Some c.in-GetAddrs.is) tt

pub returns-in-ChangeAddr-clause-cost : goal.returns-in-ChangeAddr-clause-cost
returns-in-ChangeAddr-clause-cost g c =
    cost_of g.I.ImageRead (Some c.args.call) _ c.args.d.now c.change_address.new.d (ap Some c.in-ChangeAddr.is) tt
