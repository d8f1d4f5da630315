use Rattle.pt_calls.proofs.skipping.skip.Goals as goal

pub returns-in-Number : goal.returns-in-Number
returns-in-Number c = rw c.in-Number.is c.skip_number.ensures

pub returns-in-Id : goal.returns-in-Id
returns-in-Id c = rw c.in-Id.is c.skip_id.ensures

pub returns-in-Truth : goal.returns-in-Truth
returns-in-Truth c = rw c.in-Truth.is c.skip_truth.ensures

pub returns-in-Name : goal.returns-in-Name
returns-in-Name c = rw c.in-Name.is c.skip_name.ensures

pub returns-in-Names : goal.returns-in-Names
returns-in-Names c = rw c.in-Names.is c.skip_list.ensures

pub returns-in-Ids : goal.returns-in-Ids
returns-in-Ids c = rw c.in-Ids.is c.skip_list-in-Ids.ensures
