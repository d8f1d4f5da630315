-- Laws of the protection database: over an image that holds a state it does what the call means, and no call leaves a shorter image.
use Rattle.std.proofs.Common.{◌≢◌, ℕ, ◌≤◌, List, [], length, refl, subst}
use Rattle.db_image.specs.Standing.{IsMeantOver}
use Rattle.db_image.specs.declared.services.CallReply.TheVariants.{BadRecord}
use Rattle.prdb_finds.specs.Records.{whole}
use Rattle.pt_service.specs.Meaning.{Answers, Makes, NoCall, Refuses, Verdict, asked, protection_meaning, reply_by, verdict}
use Rattle.pt_service.specs.State.{State, first_state}
use Rattle.pt_looks.specs.States.{HoldsState}
use Rattle.pt_changes.specs.Standing.{image_by}
use Rattle.pt_laws.specs.Told.{state_in}
use Rattle.pt_laws.proofs.GrownByTurns.{grows_by}
use Rattle.pt_laws.proofs.Made.{state_held}
use Rattle.pt_laws.proofs.Stays.{image_stays}
use Rattle.pt_laws.proofs.ToldStates.{empty_holds, state_told}
use Rattle.pt_database.specs.Service.{protection_database, protection_standing}

never_bad : (v : Verdict) (at : ℕ) → reply_by v ≢ BadRecord at
never_bad NoCall at = λ e. cc
never_bad (Refuses rule) at = λ e. cc
never_bad (Answers a) at = λ e. cc
never_bad (Makes a change) at = λ e. cc

made_so : (image : List ℕ) (s : State) (now : ℕ) (bytes : List ℕ) → HoldsState image s
    → IsMeantOver protection_standing image s
    (record { reply = reply_by (verdict s (asked bytes)); image = image_by (verdict s (asked bytes)) s image })
    (protection_meaning.call s now bytes)
made_so image s now bytes holds = record {
  reply = refl;
  good = never_bad (verdict s (asked bytes));
  stands = state_held image s bytes holds;
  stays = image_stays image s bytes holds.records;
}

pub database_is_meant : (image : List ℕ) (s : State) (now : ℕ) (bytes : List ℕ) → HoldsState image s
    → IsMeantOver protection_standing image s (protection_database.call image now bytes) (protection_meaning.call s now bytes)
database_is_meant image s now bytes holds =
    let c = asked bytes in
    subst
    (λ (t : State). IsMeantOver protection_standing image s
    (record { reply = reply_by (verdict t c); image = image_by (verdict t c) t image })
    (protection_meaning.call s now bytes))
    (state_told image s holds.records) (made_so image s now bytes holds)

pub empty_stands : HoldsState [] first_state
empty_stands = empty_holds

pub database_never_shrinks : (image : List ℕ) (now : ℕ) (bytes : List ℕ)
    → length image ≤ length (protection_database.call image now bytes).image
database_never_shrinks image now bytes = let s = state_in (whole image) in grows_by (verdict s (asked bytes)) s image
