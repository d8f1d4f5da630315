use Rattle.pt_looks.specs.States.{members_of}
use Rattle.pt_database.proofs.Keyed.{id_has_chain, name_has_chain}
use Rattle.pt_database.proofs.laws.protection_look_ups_have_chains.Goals as goal

pub returns : goal.returns
returns c = λ image s holds.
    (λ name. name_has_chain image s.registry (members_of s) name holds, λ id. id_has_chain image s.registry (members_of s) id holds)
