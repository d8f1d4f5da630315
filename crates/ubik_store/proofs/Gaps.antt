-- Where a committed log leaves no gap, and no cut of it goes to before an earlier put, it leaves none over what a crash in the midst of it leaves.
use Rattle.std.proofs.Common.{◌≡◌, ◌≤◌, ℕ, true, List, [], ◌∷◌, length, Some, sym, subst, arith}
use Rattle.ubik_types.specs.declared.images.Change.{Change}
use Rattle.ubik_types.specs.declared.images.Change.TheVariants.{Put, Cut}
use Rattle.ubik_types.specs.declared.versions.Version.{Version}
use Rattle.ubik_types.specs.Version.{zero_version, version_lt}
use Rattle.disk_base.specs.Files.{Files}
use Rattle.page_file.specs.Label.{version_of_database}
use Rattle.page_file.specs.Pages.{image_of}
use Rattle.ubik_log.specs.LogGrammar.{IsCommitted, IsDiscarded}
use Rattle.ubik_log.proofs.OneReading.{log_has_one_reading}
use Rattle.incoming_file.specs.Incoming.{IsIncoming, IsIgnored}
use Rattle.incoming_file.proofs.Opens.{open_once}
use Rattle.ubik_store.specs.Files.{IsLogged}
use Rattle.ubik_store.specs.Gaps.{LeaveNoGap, CutNothingBefore, CutsNoPut, IsPlain}
use Rattle.ubik_store.specs.Moments.{MayRedo}
use Rattle.ubik_store.specs.Redo.{changed_len, Reaches, IsSeamless}
use Rattle.ubik_store.specs.Redo.Reaches.{begins, goes_on}
use Rattle.ubik_store.proofs.Redone.{reaches_tail}

-- where no cut goes to before a position within an image, it lies within each image that is reached
reaches_within : {changes : List Change} {len x : ℕ} (at : ℕ) → at ≤ len → CutNothingBefore at changes → Reaches len changes x → at ≤ x
reaches_within at within cuts (begins len changes x low) = omega arith
reaches_within at within cuts (goes_on len (Put from bytes) changes x rest) = reaches_within at (omega arith) cuts rest
reaches_within at within cuts (goes_on len (Cut to) changes x rest) = reaches_within at (omega (arith, cuts.0, within)) cuts.1 rest

-- a put begins within an image that is reached from it on
begins_within : {changes : List Change} {len x at : ℕ} {bytes : List ℕ} → at ≤ len → CutNothingBefore at changes
    → Reaches len (Put at bytes ∷ changes) x → at ≤ x
begins_within within cuts (begins len all x low) = omega arith
begins_within within cuts (goes_on len (Put at bytes) changes x rest) = reaches_within at (omega arith) cuts rest

-- over each length that is reached they leave no gap either
pub no_gap_again : (changes : List Change) (len x : ℕ) → LeaveNoGap len changes → CutsNoPut changes → Reaches len changes x
    → LeaveNoGap x changes
no_gap_again [] len x gapless cuts reaches = tt
no_gap_again (Put at bytes ∷ changes) len x gapless cuts reaches = (
  begins_within gapless.0 cuts.0 reaches,
  no_gap_again changes (changed_len len (Put at bytes)) (changed_len x (Put at bytes)) gapless.1 cuts.1 (reaches_tail reaches),
)
no_gap_again (Cut to ∷ changes) len x gapless cuts reaches =
    (tt, no_gap_again changes (changed_len len (Cut to)) (changed_len x (Cut to)) gapless.1 cuts (reaches_tail reaches))

-- changes that leave no gap and go past no end leave no gap
pub seamless_is_gapless : (changes : List Change) (len : ℕ) → IsSeamless len changes → LeaveNoGap len changes
seamless_is_gapless [] len seamless = tt
seamless_is_gapless (Put at bytes ∷ changes) len seamless =
    (seamless.0, seamless_is_gapless changes (changed_len len (Put at bytes)) seamless.1)
seamless_is_gapless (Cut to ∷ changes) len seamless = (tt, seamless_is_gapless changes (changed_len len (Cut to)) seamless.1)

-- a database file that stands for the first version is empty
abbrev pub HasNoFirstLabel : List ℕ → Type 0
HasNoFirstLabel file = version_of_database file ≡ Some zero_version → file ≡ []

-- files with a discarded log are plain, where no label of the first version stands there
pub discarded_is_plain : (fs : Files) → IsIgnored fs.incoming → IsDiscarded fs.log → HasNoFirstLabel fs.database → IsPlain fs
discarded_is_plain fs ignored discarded first = record {
  gapless = λ changes version is. absurd (discarded changes version is.committed);
  cuts = λ changes version is. absurd (discarded changes version is.committed);
  newer = λ changes version is. absurd (discarded changes version is.committed);
  received = λ version image is. absurd (ignored version image is);
  unlabelled = λ _ _. first;
}

-- files with an open incoming file are plain, where its version is not the first one
pub received_is_plain : (fs : Files) (v : Version) (image : List ℕ) → IsIncoming fs.incoming v image → version_lt zero_version v ≡ true
    → IsPlain fs
received_is_plain fs v image is newer = record {
  gapless = λ changes version other. absurd (other.ignored v image is);
  cuts = λ changes version other. absurd (other.ignored v image is);
  newer = λ changes version other. absurd (other.ignored v image is);
  received = λ version other opens.
      subst (λ (w : Version). version_lt zero_version w ≡ true) (open_once fs.incoming v version image other is opens).0 newer;
  unlabelled = λ ignored. absurd (ignored v image is);
}

module _ (told : List Change) (v : Version) where
  -- the log that a crash leaves there counts, as it did
  pub logged_again : (kept c : Files) → IsLogged kept told v → MayRedo kept told c → IsLogged c told v
  logged_again kept c is may = record {
    ignored = subst IsIgnored (sym may.incoming) is.ignored;
    committed = subst (λ (log : List ℕ). IsCommitted log told v) (sym may.log) is.committed;
  }

  -- and those whose log tells such changes of the image that stands there, under a version that is not the first one
  pub committed_is_plain : (fs : Files) → IsLogged fs told v → LeaveNoGap (length (image_of fs.database)) told → CutsNoPut told
      → version_lt zero_version v ≡ true → IsPlain fs
  committed_is_plain fs is gapless cuts newer = record {
    gapless = λ changes version other.
        subst (LeaveNoGap (length (image_of fs.database)))
        (log_has_one_reading fs.log told changes v version is.committed other.committed).0 gapless;
    cuts = λ changes version other. subst CutsNoPut (log_has_one_reading fs.log told changes v version is.committed other.committed).0 cuts;
    newer = λ changes version other.
        subst (λ (w : Version). version_lt zero_version w ≡ true)
        (log_has_one_reading fs.log told changes v version is.committed other.committed).1 newer;
    received = λ version image opens. absurd (is.ignored version image opens);
    unlabelled = λ ignored discarded. absurd (discarded told v is.committed);
  }

  -- what a crash leaves of plain files while the changes of their log are made is plain
  pub plain_again : (kept c : Files) → IsLogged kept told v → IsPlain kept → MayRedo kept told c → IsPlain c
  plain_again kept c is plain may =
      committed_is_plain c (logged_again kept c is may)
      (no_gap_again told (length (image_of kept.database)) (length (image_of c.database)) (plain.gapless told v is)
      (plain.cuts told v is) may.redoes.reaches)
      (plain.cuts told v is) (plain.newer told v is)
