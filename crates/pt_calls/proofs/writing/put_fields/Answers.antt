use Rattle.pt_calls.proofs.writing.put_fields.Goals as goal

pub put-requires : goal.put-requires
put-requires c = rw c.in-NewEntry.is at c.requires

pub put-requires-in-INewEntry : goal.put-requires-in-INewEntry
put-requires-in-INewEntry c = rw c.in-INewEntry.is at c.requires

pub put-requires-in-ChangeEntry : goal.put-requires-in-ChangeEntry
put-requires-in-ChangeEntry c = rw c.in-ChangeEntry.is at c.requires

pub put-requires-in-NameToId : goal.put-requires-in-NameToId
put-requires-in-NameToId c = rw c.in-NameToId.is at c.requires

pub put-requires-in-IdToName : goal.put-requires-in-IdToName
put-requires-in-IdToName c = rw c.in-IdToName.is at c.requires

pub returns-in-NewEntry : goal.returns-in-NewEntry
returns-in-NewEntry c = rw c.in-NewEntry.is c.put.ensures

pub returns-in-INewEntry : goal.returns-in-INewEntry
returns-in-INewEntry c = rw c.in-INewEntry.is c.put-in-INewEntry.ensures

pub returns-in-NameToId : goal.returns-in-NameToId
returns-in-NameToId c = rw c.in-NameToId.is c.put-in-NameToId.ensures

pub returns-in-IdToName : goal.returns-in-IdToName
returns-in-IdToName c = rw c.in-IdToName.is c.put-in-IdToName.ensures

pub returns-in-Delete : goal.returns-in-Delete
returns-in-Delete c = rw c.in-Delete.is c.put-in-Delete.ensures

pub returns-in-AddToGroup : goal.returns-in-AddToGroup
returns-in-AddToGroup c = rw c.in-AddToGroup.is c.put-in-AddToGroup.ensures

pub returns-in-RemoveFromGroup : goal.returns-in-RemoveFromGroup
returns-in-RemoveFromGroup c = rw c.in-RemoveFromGroup.is c.put-in-RemoveFromGroup.ensures

pub returns-in-GetCps : goal.returns-in-GetCps
returns-in-GetCps c = rw c.in-GetCps.is c.put-in-GetCps.ensures

pub returns-in-SetMax : goal.returns-in-SetMax
returns-in-SetMax c = rw c.in-SetMax.is c.put-in-SetMax.ensures

pub returns-in-ListEntry : goal.returns-in-ListEntry
returns-in-ListEntry c = rw c.in-ListEntry.is c.put-in-ListEntry.ensures

pub returns-in-ListEntries : goal.returns-in-ListEntries
returns-in-ListEntries c = rw c.in-ListEntries.is c.put-in-ListEntries.ensures

pub returns-in-ChangeEntry : goal.returns-in-ChangeEntry
returns-in-ChangeEntry c = rw c.in-ChangeEntry.is c.put-in-ChangeEntry.ensures

pub returns-in-SetFields : goal.returns-in-SetFields
returns-in-SetFields c = rw c.in-SetFields.is c.put-in-SetFields.ensures

pub returns-in-ListElements : goal.returns-in-ListElements
returns-in-ListElements c = rw c.in-ListElements.is c.put-in-ListElements.ensures

pub returns-in-IsMemberOf : goal.returns-in-IsMemberOf
returns-in-IsMemberOf c = rw c.in-IsMemberOf.is c.put-in-IsMemberOf.ensures

pub returns-in-ListOwned : goal.returns-in-ListOwned
returns-in-ListOwned c = rw c.in-ListOwned.is c.put-in-ListOwned.ensures
