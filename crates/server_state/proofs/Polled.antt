-- The recovery of a server: its answers are versions, and its phase record.
use Rattle.std.proofs.Common.{◌≡◌, ℕ, zero, suc, Bool, true, false, cond, Option, Some, None, List, [], ◌∷◌, set, replicate, refl, ap, subst, arith}
use Rattle.std.specs.Option.{ForSome}
use Rattle.ubik_types.specs.declared.phases.Phase.{Phase}
use Rattle.ubik_types.specs.declared.phases.Phase.TheVariants as phase
use Rattle.ubik_types.specs.declared.versions.Version.{Version}
use Rattle.ubik_types.specs.Version.{IsVersion, version_lt, zero_version}
use Rattle.cell_model.specs.Node.{ReceivedText}
use Rattle.cell_model.specs.Polls.{best_version, only_at}
use Rattle.cell_model.specs.Step.{is_ready}
use Rattle.ubik_recovery.specs.Record.{RecoveryRecord, answered_by, best_of, is_fetch, no_recovery, phase_record, poll_begun, record_in, with_text}
use Rattle.server_state.specs.Recovering.{AreVersions, IsOfCell}

same_version : (v w : Version) → ◌≡◌ {A = Option Version} (Some v) (Some w) → v ≡ w
same_version v w is = cc

pub versions_set : (xs : List (Option Version)) (k : ℕ) (w : Version) → AreVersions xs → IsVersion w → AreVersions (set xs k (Some w))
versions_set [] k w all is j v at = all j v at
versions_set (x ∷ xs) zero w all is zero v at = subst IsVersion (same_version w v at) is
versions_set (x ∷ xs) zero w all is (suc j) v at = all (suc j) v at
versions_set (x ∷ xs) (suc k) w all is zero v at = all zero v at
versions_set (x ∷ xs) (suc k) w all is (suc j) v at = versions_set xs k w (λ i u. all (suc i) u) is j v at

versions_none : (n : ℕ) → AreVersions (replicate n None)
versions_none zero j v at = absurd cc
versions_none (suc n) zero v at = absurd cc
versions_none (suc n) (suc j) v at = versions_none n j v at

pub versions_only : (n me : ℕ) (own : Version) → IsVersion own → AreVersions (only_at (Some own) None n me)
versions_only zero me own is j v at = absurd cc
versions_only (suc n) zero own is zero v at = subst IsVersion (same_version own v at) is
versions_only (suc n) zero own is (suc j) v at = versions_none n j v at
versions_only (suc n) (suc me) own is zero v at = absurd cc
versions_only (suc n) (suc me) own is (suc j) v at = versions_only n me own is j v at

greater : (b : Bool) (v w : Version) → IsVersion v → IsVersion w → IsVersion (cond b v w)
greater true v w one other = one
greater false v w one other = other

best_is : (xs : List (Option Version)) (best : Version) → AreVersions xs → IsVersion best → IsVersion (best_version best xs)
best_is [] best all is = is
best_is (None ∷ xs) best all is = best_is xs best (λ i u. all (suc i) u) is
best_is (Some v ∷ xs) best all is =
    best_is xs (cond (version_lt best v) v best) (λ i u. all (suc i) u) (greater (version_lt best v) v best (all zero v refl) is)

-- the best of answers that are versions is one
pub version_best : (r : RecoveryRecord) → AreVersions r.answers → IsVersion (best_of r)
version_best r all = best_is r.answers zero_version all (record { epoch = omega arith; counter = omega arith })

through : {P : ReceivedText → Type 0} (b : Bool) (text : Option ReceivedText) → ForSome text P → ForSome (cond b None text) P
through true text all t at = absurd cc
through false text all t at = all t at

pub of_begun : (n : ℕ) (r : RecoveryRecord) (now me : ℕ) (own : Version) → IsVersion own → IsOfCell n r
    → IsOfCell n (poll_begun r now me own)
of_begun n r now me own is of = record {
  servers = of.servers;
  answers = versions_only r.servers me own is;
  old = of.old;
  text = through (is_fetch r.phase) r.text of.text;
}

pub of_marks : (n : ℕ) (r : RecoveryRecord) → IsOfCell n r → IsOfCell n (with_text r None)
of_marks n r of = record { servers = of.servers; answers = of.answers; old = of.old; text = λ t at. absurd cc }

-- where no calls are served the phase record names no announced version
pub unannounced : (r : RecoveryRecord) (text : Option ReceivedText) (v w : Version) → ¬ (r.phase ≡ phase.Ready)
    → phase_record v (with_text r text) ≡ phase_record w r
unannounced r text v w rests = by_phase r.phase rests
  where
    by_phase : (p : Phase) → ¬ (p ≡ phase.Ready) → record_in p v (with_text r text) ≡ record_in p w r
    by_phase phase.None not = refl
    by_phase phase.Poll not = refl
    by_phase phase.Fetch not = refl
    by_phase phase.Relabel not = refl
    by_phase phase.Send not = refl
    by_phase phase.Ready not = absurd (not refl)

pub ready_phase : (v : Version) (r : RecoveryRecord) → r.phase ≡ phase.Ready → is_ready (phase_record v r) ≡ true
ready_phase v r is = ap (λ (p : Phase). is_ready (record_in p v r)) is

pub of_answered : (n : ℕ) (r : RecoveryRecord) (k : ℕ) (v : Version) → IsVersion v → IsOfCell n r → IsOfCell n (answered_by r k v)
of_answered n r k v is of =
    record { servers = of.servers; answers = versions_set r.answers k v of.answers is; old = of.old; text = of.text }

pub of_none : (n : ℕ) → IsOfCell n (no_recovery n)
of_none n =
    record {
      servers = refl;
      answers = versions_none n;
      old = record { epoch = omega arith; counter = omega arith };
      text = λ t at.
          absurd cc;
    }
