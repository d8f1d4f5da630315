-- An image tells the state that it holds.
use Rattle.std.proofs.Common.{◌≡◌, ℕ, List, [], sym, ap, ◌∙◌}
use Rattle.prdb_layout.specs.Registry.{Registry}
use Rattle.prdb_lists.specs.Members.{Members}
use Rattle.prdb_finds.specs.Records.{whole}
use Rattle.prdb_finds.specs.Unchained.{unchained}
use Rattle.prdb_finds.proofs.FirstHolds.{empty_holds as first_holds}
use Rattle.prdb_finds.proofs.Told.{registry_is}
use Rattle.prdb_scans.specs.Told.{members_in}
use Rattle.prdb_scans.proofs.Told.{pairs_told}
use Rattle.pt_service.specs.State.{State, first_state}
use Rattle.pt_looks.specs.States.{HoldsRecords, HoldsState, members_of}
use Rattle.pt_laws.specs.Told.{state_in}
use Rattle.pt_laws.proofs.NamesFollow.{first_follow}

pub state_told : (image : List ℕ) (s : State) → HoldsRecords image s → s ≡ state_in (whole image)
unfolding state_in
state_told image s holds =
    ap (λ (m : Members). record s { is_in = m.has }) (pairs_told image s.registry (members_of s) holds)
    ∙ ap (λ (r : Registry). record s { registry = r; is_in = (members_in (unchained (whole image))).has })
    (registry_is image s.registry (members_of s) holds)

pub holds_one : (image : List ℕ) (r s : State) → HoldsRecords image r → HoldsRecords image s → r ≡ s
holds_one image r s first second = state_told image r first ∙ sym (state_told image s second)

pub empty_holds : HoldsState [] first_state
empty_holds = record { records = first_holds; names = first_follow }
