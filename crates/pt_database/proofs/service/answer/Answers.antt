use Rattle.std.proofs.Common.{length, map, FitsSigned, Some, ap, refl, arith, rules}
use Rattle.std.specs.Int.{w32}
use Rattle.std.proofs.lemmas.Int.{to_z-of_z}
use Rattle.prdb_layout.specs.Names.{lowered}
use Rattle.prdb_layout.specs.Registry.{Registry}
use Rattle.pt_calls.specs.declared.answers.PtAnswer.TheVariants as answer
use Rattle.pt_calls.specs.declared.calls.PtCall.TheVariants as call
use Rattle.pt_calls.specs.Meaning.{id_or_anonymous}
use Rattle.pt_service.specs.Meaning.{Answers, fields_set, maximum_set, name_of, new_entry, new_entry_of_id, of_entry, verdict}
use Rattle.pt_laws.proofs.Changing.{fields_plain, given_plain, maximum_plain, new_plain, reads_look}
use Rattle.pt_database.proofs.Costs.{cost_of}
use Rattle.pt_database.proofs.Served.{change_ok, look_ok, no_reader, plain_ok}
use Rattle.pt_database.proofs.service.answer.Goals as goal

pub returns-in-NewEntry-clause-meant : goal.returns-in-NewEntry-clause-meant
unfolding verdict
returns-in-NewEntry-clause-meant g c =
    let fits_owner : FitsSigned w32 c.in-NewEntry.owner = search rules in
    let meant = c.new_entry.ensures.meant in
    let named = rw c.as_slice.ensures at meant in
    plain_ok c.new_entry.result c.args.d.now.bytes c.new_entry.new.d.bytes
    (λ (r : Registry). new_entry r (lowered c.in-NewEntry.name) c.in-NewEntry.kind c.in-NewEntry.owner)
    c.args.call (call.NewEntry c.in-NewEntry.name c.in-NewEntry.kind c.in-NewEntry.owner) c.in-NewEntry.is
    (λ r. new_plain r (lowered c.in-NewEntry.name) c.in-NewEntry.kind c.in-NewEntry.owner) (λ s. refl)
    (simp to_z-of_z at named)

pub returns-in-NewEntry-clause-fault : goal.returns-in-NewEntry-clause-fault
returns-in-NewEntry-clause-fault g c = c.new_entry.ensures.fault

pub returns-in-INewEntry-clause-meant : goal.returns-in-INewEntry-clause-meant
unfolding verdict
returns-in-INewEntry-clause-meant g c =
    let fits_id : FitsSigned w32 c.in-INewEntry.id = search rules in
    let fits_owner : FitsSigned w32 c.in-INewEntry.owner = search rules in
    let meant = c.new_entry_of_id.ensures.meant in
    let named = rw c.as_slice-in-INewEntry.ensures at meant in
    plain_ok c.new_entry_of_id.result c.args.d.now.bytes c.new_entry_of_id.new.d.bytes
    (λ (r : Registry). new_entry_of_id r (lowered c.in-INewEntry.name) c.in-INewEntry.id c.in-INewEntry.owner)
    c.args.call (call.INewEntry c.in-INewEntry.name c.in-INewEntry.id c.in-INewEntry.owner) c.in-INewEntry.is
    (λ r. given_plain r (lowered c.in-INewEntry.name) c.in-INewEntry.id c.in-INewEntry.owner) (λ s. refl)
    (simp to_z-of_z at named)

pub returns-in-INewEntry-clause-fault : goal.returns-in-INewEntry-clause-fault
returns-in-INewEntry-clause-fault g c = c.new_entry_of_id.ensures.fault

pub returns-in-NameToId-clause-meant : goal.returns-in-NameToId-clause-meant
unfolding verdict
returns-in-NameToId-clause-meant g c =
    let meant = c.name_to_id.ensures.meant in
    let named = rw c.as_slice-in-NameToId.ensures at meant in
    plain_ok c.name_to_id.result c.args.d.now.bytes c.name_to_id.new.d.bytes
    (λ (r : Registry). Answers (answer.Ids (map (id_or_anonymous r) c.in-NameToId.names)))
    c.args.call (call.NameToId c.in-NameToId.names) c.in-NameToId.is
    (λ r. tt) (λ s. refl)
    named

pub returns-in-NameToId-clause-fault : goal.returns-in-NameToId-clause-fault
returns-in-NameToId-clause-fault g c = c.name_to_id.ensures.fault

pub returns-in-IdToName-clause-meant : goal.returns-in-IdToName-clause-meant
unfolding verdict
returns-in-IdToName-clause-meant g c =
    let meant = c.id_to_name.ensures.meant in
    let named = rw c.as_slice-in-IdToName.ensures at meant in
    plain_ok c.id_to_name.result c.args.d.now.bytes c.id_to_name.new.d.bytes
    (λ (r : Registry). Answers (answer.Names (map (name_of r) c.in-IdToName.ids)))
    c.args.call (call.IdToName c.in-IdToName.ids) c.in-IdToName.is
    (λ r. tt) (λ s. refl)
    named

pub returns-in-IdToName-clause-fault : goal.returns-in-IdToName-clause-fault
returns-in-IdToName-clause-fault g c = c.id_to_name.ensures.fault

pub returns-in-Delete-clause-meant : goal.returns-in-Delete-clause-meant
unfolding verdict
returns-in-Delete-clause-meant g c =
    let fits_id : FitsSigned w32 c.in-Delete.id = search rules in
    let meant = c.delete.ensures.meant in
    change_ok c.delete.result c.args.d.now.bytes c.delete.new.d.bytes
    c.args.call (call.Delete c.in-Delete.id) c.in-Delete.is
    (simp to_z-of_z at meant)

pub returns-in-AddToGroup-clause-meant : goal.returns-in-AddToGroup-clause-meant
unfolding verdict
returns-in-AddToGroup-clause-meant g c =
    let fits_member : FitsSigned w32 c.in-AddToGroup.member = search rules in
    let fits_group : FitsSigned w32 c.in-AddToGroup.group = search rules in
    let meant = c.add_to_group.ensures.meant in
    change_ok c.add_to_group.result c.args.d.now.bytes c.add_to_group.new.d.bytes
    c.args.call (call.AddToGroup c.in-AddToGroup.member c.in-AddToGroup.group) c.in-AddToGroup.is
    (simp to_z-of_z at meant)

pub returns-in-RemoveFromGroup-clause-meant : goal.returns-in-RemoveFromGroup-clause-meant
unfolding verdict
returns-in-RemoveFromGroup-clause-meant g c =
    let fits_member : FitsSigned w32 c.in-RemoveFromGroup.member = search rules in
    let fits_group : FitsSigned w32 c.in-RemoveFromGroup.group = search rules in
    let meant = c.remove_from_group.ensures.meant in
    change_ok c.remove_from_group.result c.args.d.now.bytes c.remove_from_group.new.d.bytes
    c.args.call (call.RemoveFromGroup c.in-RemoveFromGroup.member c.in-RemoveFromGroup.group) c.in-RemoveFromGroup.is
    (simp to_z-of_z at meant)

pub returns-in-GetCps-clause-meant : goal.returns-in-GetCps-clause-meant
unfolding verdict
returns-in-GetCps-clause-meant g c =
    let fits_id : FitsSigned w32 c.in-GetCps.id = search rules in
    let meant = c.get_cps.ensures.meant in
    look_ok c.get_cps.result c.args.d.now.bytes c.get_cps.new.d.bytes
    c.args.call (call.GetCps c.in-GetCps.id) c.in-GetCps.is
    c.get_cps.ensures.frame.same.bytes (λ s. reads_look s (call.GetCps c.in-GetCps.id) refl) (simp to_z-of_z at meant)

pub returns-in-ListMax-clause-meant : goal.returns-in-ListMax-clause-meant
unfolding verdict
returns-in-ListMax-clause-meant g c =
    let meant = c.list_max.ensures.meant in
    plain_ok c.list_max.result c.args.d.now.bytes c.list_max.new.d.bytes
    (λ (r : Registry). Answers (answer.Maxima r.max_user r.max_group))
    c.args.call call.ListMax c.in-ListMax.is (λ r. tt) (λ s. refl)
    meant

pub returns-in-ListMax-clause-fault : goal.returns-in-ListMax-clause-fault
returns-in-ListMax-clause-fault g c = c.list_max.ensures.fault

pub returns-in-SetMax-clause-meant : goal.returns-in-SetMax-clause-meant
unfolding verdict
returns-in-SetMax-clause-meant g c =
    let fits_id : FitsSigned w32 c.in-SetMax.id = search rules in
    let meant = c.set_max.ensures.meant in
    plain_ok c.set_max.result c.args.d.now.bytes c.set_max.new.d.bytes
    (λ (r : Registry). maximum_set r c.in-SetMax.id c.in-SetMax.is_group)
    c.args.call (call.SetMax c.in-SetMax.id c.in-SetMax.is_group) c.in-SetMax.is
    (λ r. maximum_plain r c.in-SetMax.id c.in-SetMax.is_group) (λ s. refl)
    (simp to_z-of_z at meant)

pub returns-in-SetMax-clause-fault : goal.returns-in-SetMax-clause-fault
returns-in-SetMax-clause-fault g c = c.set_max.ensures.fault

pub returns-in-ListEntry-clause-meant : goal.returns-in-ListEntry-clause-meant
unfolding verdict
returns-in-ListEntry-clause-meant g c =
    let fits_id : FitsSigned w32 c.in-ListEntry.id = search rules in
    let meant = c.list_entry.ensures.meant in
    look_ok c.list_entry.result c.args.d.now.bytes c.list_entry.new.d.bytes
    c.args.call (call.ListEntry c.in-ListEntry.id) c.in-ListEntry.is
    c.list_entry.ensures.frame.same.bytes (λ s. reads_look s (call.ListEntry c.in-ListEntry.id) refl) (simp to_z-of_z at meant)

pub returns-in-ListEntries-clause-meant : goal.returns-in-ListEntries-clause-meant
unfolding verdict
returns-in-ListEntries-clause-meant g c =
    let fits_after : FitsSigned w32 c.in-ListEntries.after = search rules in
    let meant = c.list_entries.ensures.meant in
    look_ok c.list_entries.result c.args.d.now.bytes c.list_entries.new.d.bytes
    c.args.call (call.ListEntries c.in-ListEntries.kinds c.in-ListEntries.after) c.in-ListEntries.is
    c.list_entries.ensures.frame.same.bytes (λ s. reads_look s (call.ListEntries c.in-ListEntries.kinds c.in-ListEntries.after) refl)
    (simp to_z-of_z at meant)

pub returns-in-ChangeEntry-clause-meant : goal.returns-in-ChangeEntry-clause-meant
unfolding verdict
returns-in-ChangeEntry-clause-meant g c =
    let fits_id : FitsSigned w32 c.in-ChangeEntry.id = search rules in
    let fits_owner : FitsSigned w32 c.in-ChangeEntry.owner = search rules in
    let fits_new_id : FitsSigned w32 c.in-ChangeEntry.new_id = search rules in
    let meant = c.change_entry.ensures.meant in
    let named = rw c.as_slice-in-ChangeEntry.ensures at meant in
    change_ok c.change_entry.result c.args.d.now.bytes c.change_entry.new.d.bytes
    c.args.call (call.ChangeEntry c.in-ChangeEntry.id c.in-ChangeEntry.name c.in-ChangeEntry.owner c.in-ChangeEntry.new_id)
    c.in-ChangeEntry.is
    (simp to_z-of_z at named)

pub returns-in-SetFields-clause-meant : goal.returns-in-SetFields-clause-meant
unfolding verdict
returns-in-SetFields-clause-meant g c =
    let fits_id : FitsSigned w32 c.in-SetFields.id = search rules in
    let fits_quota : FitsSigned w32 c.in-SetFields.quota = search rules in
    let meant = c.set_fields.ensures.meant in
    plain_ok c.set_fields.result c.args.d.now.bytes c.set_fields.new.d.bytes
    (λ (r : Registry). of_entry (r.entry c.in-SetFields.id) (fields_set c.in-SetFields.mask c.in-SetFields.flags c.in-SetFields.quota))
    c.args.call (call.SetFields c.in-SetFields.id c.in-SetFields.mask c.in-SetFields.flags c.in-SetFields.quota) c.in-SetFields.is
    (λ r. fields_plain (r.entry c.in-SetFields.id) c.in-SetFields.mask c.in-SetFields.flags c.in-SetFields.quota) (λ s. refl)
    (simp to_z-of_z at meant)

pub returns-in-SetFields-clause-fault : goal.returns-in-SetFields-clause-fault
returns-in-SetFields-clause-fault g c = c.set_fields.ensures.fault

pub returns-in-ListElements-clause-meant : goal.returns-in-ListElements-clause-meant
unfolding verdict
returns-in-ListElements-clause-meant g c =
    let fits_id : FitsSigned w32 c.in-ListElements.id = search rules in
    let meant = c.list_elements.ensures.meant in
    look_ok c.list_elements.result c.args.d.now.bytes c.list_elements.new.d.bytes
    c.args.call (call.ListElements c.in-ListElements.id) c.in-ListElements.is
    c.list_elements.ensures.frame.same.bytes (λ s. reads_look s (call.ListElements c.in-ListElements.id) refl) (simp to_z-of_z at meant)

pub returns-in-IsMemberOf-clause-meant : goal.returns-in-IsMemberOf-clause-meant
unfolding verdict
returns-in-IsMemberOf-clause-meant g c =
    let fits_member : FitsSigned w32 c.in-IsMemberOf.member = search rules in
    let fits_group : FitsSigned w32 c.in-IsMemberOf.group = search rules in
    let meant = c.is_member_of.ensures.meant in
    look_ok c.is_member_of.result c.args.d.now.bytes c.is_member_of.new.d.bytes
    c.args.call (call.IsMemberOf c.in-IsMemberOf.member c.in-IsMemberOf.group) c.in-IsMemberOf.is
    c.is_member_of.ensures.frame.same.bytes (λ s. reads_look s (call.IsMemberOf c.in-IsMemberOf.member c.in-IsMemberOf.group) refl)
    (simp to_z-of_z at meant)

pub returns-in-ListOwned-clause-meant : goal.returns-in-ListOwned-clause-meant
unfolding verdict
returns-in-ListOwned-clause-meant g c =
    let fits_id : FitsSigned w32 c.in-ListOwned.id = search rules in
    let meant = c.list_owned.ensures.meant in
    look_ok c.list_owned.result c.args.d.now.bytes c.list_owned.new.d.bytes
    c.args.call (call.ListOwned c.in-ListOwned.id) c.in-ListOwned.is
    c.list_owned.ensures.frame.same.bytes (λ s. reads_look s (call.ListOwned c.in-ListOwned.id) refl) (simp to_z-of_z at meant)

pub name_to_id-requires-clause-count : goal.name_to_id-requires-clause-count
name_to_id-requires-clause-count g c =
    let spelled = rw c.in-NameToId.is at c.requires.call in
    omega (arith, ap length c.as_slice-in-NameToId.ensures, spelled.0.0)

pub id_to_name-requires-clause-count : goal.id_to_name-requires-clause-count
id_to_name-requires-clause-count g c =
    let spelled = rw c.in-IdToName.is at c.requires.call in
    omega (arith, ap length c.as_slice-in-IdToName.ensures, spelled.0)

pub returns-in-NewEntry-clause-rests : goal.returns-in-NewEntry-clause-rests
returns-in-NewEntry-clause-rests g c = λ reads. absurd (no_reader c.args.call _ c.in-NewEntry.is refl reads)

pub returns-in-INewEntry-clause-rests : goal.returns-in-INewEntry-clause-rests
returns-in-INewEntry-clause-rests g c = λ reads. absurd (no_reader c.args.call _ c.in-INewEntry.is refl reads)

pub returns-in-Delete-clause-rests : goal.returns-in-Delete-clause-rests
returns-in-Delete-clause-rests g c = λ reads. absurd (no_reader c.args.call _ c.in-Delete.is refl reads)

pub returns-in-AddToGroup-clause-rests : goal.returns-in-AddToGroup-clause-rests
returns-in-AddToGroup-clause-rests g c = λ reads. absurd (no_reader c.args.call _ c.in-AddToGroup.is refl reads)

pub returns-in-RemoveFromGroup-clause-rests : goal.returns-in-RemoveFromGroup-clause-rests
returns-in-RemoveFromGroup-clause-rests g c = λ reads. absurd (no_reader c.args.call _ c.in-RemoveFromGroup.is refl reads)

pub returns-in-SetMax-clause-rests : goal.returns-in-SetMax-clause-rests
returns-in-SetMax-clause-rests g c = λ reads. absurd (no_reader c.args.call _ c.in-SetMax.is refl reads)

pub returns-in-ChangeEntry-clause-rests : goal.returns-in-ChangeEntry-clause-rests
returns-in-ChangeEntry-clause-rests g c = λ reads. absurd (no_reader c.args.call _ c.in-ChangeEntry.is refl reads)

pub returns-in-SetFields-clause-rests : goal.returns-in-SetFields-clause-rests
returns-in-SetFields-clause-rests g c = λ reads. absurd (no_reader c.args.call _ c.in-SetFields.is refl reads)

pub returns-in-NewEntry-clause-cost : goal.returns-in-NewEntry-clause-cost
returns-in-NewEntry-clause-cost g c =
    cost_of g.I.ImageRead (Some c.args.call) _ c.args.d.now c.new_entry.new.d (ap Some c.in-NewEntry.is) tt

pub returns-in-INewEntry-clause-cost : goal.returns-in-INewEntry-clause-cost
returns-in-INewEntry-clause-cost g c =
    cost_of g.I.ImageRead (Some c.args.call) _ c.args.d.now c.new_entry_of_id.new.d (ap Some c.in-INewEntry.is) tt

pub returns-in-NameToId-clause-cost : goal.returns-in-NameToId-clause-cost
returns-in-NameToId-clause-cost g c =
    let cost = c.name_to_id.ensures.cost in
    cost_of g.I.ImageRead (Some c.args.call) _ c.args.d.now c.name_to_id.new.d (ap Some c.in-NameToId.is)
    (rw c.as_slice-in-NameToId.ensures at cost)

pub returns-in-IdToName-clause-cost : goal.returns-in-IdToName-clause-cost
returns-in-IdToName-clause-cost g c =
    let cost = c.id_to_name.ensures.cost in
    cost_of g.I.ImageRead (Some c.args.call) _ c.args.d.now c.id_to_name.new.d (ap Some c.in-IdToName.is)
    (rw c.as_slice-in-IdToName.ensures at cost)

pub returns-in-Delete-clause-cost : goal.returns-in-Delete-clause-cost
returns-in-Delete-clause-cost g c =
    cost_of g.I.ImageRead (Some c.args.call) _ c.args.d.now c.delete.new.d (ap Some c.in-Delete.is) tt

pub returns-in-AddToGroup-clause-cost : goal.returns-in-AddToGroup-clause-cost
returns-in-AddToGroup-clause-cost g c =
    cost_of g.I.ImageRead (Some c.args.call) _ c.args.d.now c.add_to_group.new.d (ap Some c.in-AddToGroup.is) tt

pub returns-in-RemoveFromGroup-clause-cost : goal.returns-in-RemoveFromGroup-clause-cost
returns-in-RemoveFromGroup-clause-cost g c =
    cost_of g.I.ImageRead (Some c.args.call) _ c.args.d.now c.remove_from_group.new.d (ap Some c.in-RemoveFromGroup.is) tt

pub returns-in-GetCps-clause-cost : goal.returns-in-GetCps-clause-cost
returns-in-GetCps-clause-cost g c =
    cost_of g.I.ImageRead (Some c.args.call) _ c.args.d.now c.get_cps.new.d (ap Some c.in-GetCps.is) tt

pub returns-in-ListMax-clause-cost : goal.returns-in-ListMax-clause-cost
returns-in-ListMax-clause-cost g c =
    cost_of g.I.ImageRead (Some c.args.call) _ c.args.d.now c.list_max.new.d (ap Some c.in-ListMax.is) tt

pub returns-in-SetMax-clause-cost : goal.returns-in-SetMax-clause-cost
returns-in-SetMax-clause-cost g c =
    cost_of g.I.ImageRead (Some c.args.call) _ c.args.d.now c.set_max.new.d (ap Some c.in-SetMax.is) tt

pub returns-in-ListEntry-clause-cost : goal.returns-in-ListEntry-clause-cost
returns-in-ListEntry-clause-cost g c =
    cost_of g.I.ImageRead (Some c.args.call) _ c.args.d.now c.list_entry.new.d (ap Some c.in-ListEntry.is) tt

pub returns-in-ListEntries-clause-cost : goal.returns-in-ListEntries-clause-cost
returns-in-ListEntries-clause-cost g c =
    cost_of g.I.ImageRead (Some c.args.call) _ c.args.d.now c.list_entries.new.d (ap Some c.in-ListEntries.is) tt

pub returns-in-ChangeEntry-clause-cost : goal.returns-in-ChangeEntry-clause-cost
returns-in-ChangeEntry-clause-cost g c =
    cost_of g.I.ImageRead (Some c.args.call) _ c.args.d.now c.change_entry.new.d (ap Some c.in-ChangeEntry.is) tt

pub returns-in-SetFields-clause-cost : goal.returns-in-SetFields-clause-cost
returns-in-SetFields-clause-cost g c =
    cost_of g.I.ImageRead (Some c.args.call) _ c.args.d.now c.set_fields.new.d (ap Some c.in-SetFields.is) tt

pub returns-in-ListElements-clause-cost : goal.returns-in-ListElements-clause-cost
returns-in-ListElements-clause-cost g c =
    cost_of g.I.ImageRead (Some c.args.call) _ c.args.d.now c.list_elements.new.d (ap Some c.in-ListElements.is) tt

pub returns-in-IsMemberOf-clause-cost : goal.returns-in-IsMemberOf-clause-cost
returns-in-IsMemberOf-clause-cost g c =
    cost_of g.I.ImageRead (Some c.args.call) _ c.args.d.now c.is_member_of.new.d (ap Some c.in-IsMemberOf.is) tt

pub returns-in-ListOwned-clause-cost : goal.returns-in-ListOwned-clause-cost
returns-in-ListOwned-clause-cost g c =
    cost_of g.I.ImageRead (Some c.args.call) _ c.args.d.now c.list_owned.new.d (ap Some c.in-ListOwned.is) tt
