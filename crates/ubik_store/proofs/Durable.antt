-- A durable call over files at rest: what went before its first changing call shows in nothing.
use Rattle.std.proofs.Common.{◌≡◌, inl, ℕ, Some, IfSome, ◌+◌, subst, sym, ap, ◌∙◌, arith}
use Rattle.std.specs.Option.{option_map}
use Rattle.ubik_types.specs.declared.versions.Version.{Version}
use Rattle.disk_base.specs.declared.disks.Disk.{Ghosts}
use Rattle.disk_base.specs.Crash.{Narrows, LeavesOnly, IsSettled, RisesAtMost}
use Rattle.disk_base.specs.Files.{Files}
use Rattle.disk_base.specs.Runs.{OnlyReserves}
use Rattle.disk_base.specs.Stops.{IsStopped}
use Rattle.disk_base.proofs.Runs.{own_none}
use Rattle.disk_base.proofs.Stopping.{advances_none}
use Rattle.page_file.specs.Label.{version_of_database}
use Rattle.page_file.specs.Pages.{Known, image_of}
use Rattle.ubik_store.specs.Calls.{CallsAtMost}
use Rattle.ubik_store.specs.Commit.{RewritesFiles, IsDurableOver}
use Rattle.ubik_store.specs.Files.{StandsForEither}
use Rattle.ubik_store.specs.Gaps.{IsPlain}
use Rattle.ubik_store.specs.Rest.{AreEmpty, HasNoLog, RestsAs}
use Rattle.ubik_store.specs.Rewrite.{Rewrite, rewritten, len_rewritten, rewrite_calls, files_rewritten}
use Rattle.ubik_store.proofs.Applied.{calls_joined, calls_as, no_calls}
use Rattle.ubik_store.proofs.Committing.{settled_at, stands_at_rest, unmoved, room_made, room_first}
use Rattle.ubik_store.proofs.Telling.{told, of_told, of_some}
use Rattle.ubik_store.proofs.Unlogged.{no_log_here}

-- a run leaves the state before, or the one after
abbrev pub LeavesRewritten : {D : Type 0} (g : Ghosts D) (old new : D) (v : Version) (rewrite : Rewrite) → Files → Type 0
LeavesRewritten g old new v rewrite fs =
    (own : Version) → version_of_database fs.database ≡ Some own
    → LeavesOnly g.steps g.left_since old new (StandsForEither own (image_of fs.database) v (rewritten rewrite (image_of fs.database)))

-- and makes no more calls than one that is done
abbrev pub FewRewritten : {D : Type 0} (g : Ghosts D) (old new : D) (rewrite : Rewrite) → Files → Type 0
FewRewritten g old new rewrite fs = RisesAtMost (rewrite_calls rewrite fs.database) (g.steps old) (g.steps new)

-- plain files stay plain
abbrev pub KeepsPlain : {D : Type 0} (g : Ghosts D) (old new : D) → Files → Type 0
KeepsPlain g old new fs = IsPlain fs → LeavesOnly g.steps g.left_since old new IsPlain

module _ {D : Type 0} (g : Ghosts D) where
  calls_reserved : {old new : D} {F : Type 0} → OnlyReserves g old new → ¬ F → CallsAtMost g 0 old new F
  calls_reserved {old} {new} {F} made not = record {
    at_most = (omega (arith, made.steps), omega (arith, made.steps));
    advances = advances_none made.steps made.stop;
    stopped = λ is. inl (subst IsStopped made.stop is);
    room = made.room;
    tells = made.tells;
    cause = record { never_falls = omega (arith, made.faults); rose = λ failed. absurd (not failed) };
    own = own_none (g.own_faults old) (g.own_faults new) (g.stop new) F not made.own;
  }

  calls_first : {n : ℕ} {old mid new : D} {F : Type 0} → OnlyReserves g old mid → CallsAtMost g n mid new F → CallsAtMost g n old new F
  calls_first {n} {old} {mid} {new} {F} made rest =
      calls_as (omega arith) (λ failed. failed) (λ failed. failed)
      (calls_joined (calls_reserved {F = ⊥} made (λ none. none)) (λ none. none) rest)

  module _ (rewrite : Rewrite) (v : Version) (disk : D) (empty : IfSome (g.files disk) AreEmpty)
      (settled : IsSettled (g.files disk) (g.may_leave disk)) where
    stands_here : (fs : Files) (own : Version) → g.files disk ≡ Some fs → version_of_database fs.database ≡ Some own
        → Narrows (StandsForEither own (image_of fs.database) v (rewritten rewrite (image_of fs.database))) (g.may_leave disk)
    stands_here fs own is labelled =
        stands_at_rest fs own v (rewritten rewrite (image_of fs.database)) (g.may_leave disk)
        (of_told (g.files disk) fs AreEmpty is empty) labelled
        (settled_at (g.files disk) fs (g.may_leave disk) is settled)

    plain_here : (fs : Files) → g.files disk ≡ Some fs → IsPlain fs → Narrows IsPlain (g.may_leave disk)
    plain_here fs is plain = λ c here. subst IsPlain (sym (settled_at (g.files disk) fs (g.may_leave disk) is settled c here)) plain

    no_log : (fs : Files) → g.files disk ≡ Some fs → Narrows HasNoLog (g.may_leave disk)
    no_log fs is =
        no_log_here fs (g.may_leave disk) (settled_at (g.files disk) fs (g.may_leave disk) is settled)
        (of_told (g.files disk) fs AreEmpty is empty).0

    -- no call of the disk at all
    pub durable_unmoved : {F : Type 0} → ¬ F → IsDurableOver g rewrite v disk disk F
    durable_unmoved {F} not = record {
      moments =
          told (g.files disk) (LeavesRewritten g disk disk v rewrite)
          (λ fs is own labelled. unmoved g disk _ (stands_here fs own is labelled));
      plain = λ _ _. told (g.files disk) (KeepsPlain g disk disk) (λ fs is plain. unmoved g disk IsPlain (plain_here fs is plain));
      log =
          λ _. told (g.files disk) (λ _. LeavesOnly g.steps g.left_since disk disk HasNoLog)
          (λ fs is. unmoved g disk HasNoLog (no_log fs is));
      few = told (g.files disk) (FewRewritten g disk disk rewrite) (λ fs is. (omega arith, omega arith));
      calls = calls_as (omega arith) (λ failed. failed) (λ failed. failed) (no_calls disk F not);
    }

    -- room was made, and nothing else
    pub durable_reserved : {new : D} {F : Type 0} → OnlyReserves g disk new → ¬ F → IsDurableOver g rewrite v disk new F
    durable_reserved {new} {F} made not = record {
      moments =
          told (g.files disk) (LeavesRewritten g disk new v rewrite)
          (λ fs is own labelled. room_made g _ made (stands_here fs own is labelled));
      plain = λ _ _. told (g.files disk) (KeepsPlain g disk new) (λ fs is plain. room_made g IsPlain made (plain_here fs is plain));
      log =
          λ _. told (g.files disk) (λ _. LeavesOnly g.steps g.left_since disk new HasNoLog)
          (λ fs is. room_made g HasNoLog made (no_log fs is));
      few = told (g.files disk) (FewRewritten g disk new rewrite) (λ fs is. (omega (arith, made.steps), omega (arith, made.steps)));
      calls = calls_as (omega arith) (λ failed. failed) (λ failed. failed) (calls_reserved made not);
    }

    -- room was made first
    pub durable_first : {mid new : D} {F : Type 0} → OnlyReserves g disk mid → IsDurableOver g rewrite v mid new F
        → IsDurableOver g rewrite v disk new F
    durable_first {mid} {new} {F} made rest = record {
      moments = told (g.files disk) (LeavesRewritten g disk new v rewrite) (λ fs is own labelled.
          room_first g _ made (stands_here fs own is labelled)
          (of_told (g.files mid) fs (LeavesRewritten g mid new v rewrite) (made.files ∙ is) rest.moments own labelled));
      plain = λ newer cuts. told (g.files disk) (KeepsPlain g disk new) (λ fs is plain.
          room_first g IsPlain made (plain_here fs is plain)
          (of_told (g.files mid) fs (KeepsPlain g mid new) (made.files ∙ is) (rest.plain newer cuts) plain));
      log = λ unlogged. told (g.files disk) (λ _. LeavesOnly g.steps g.left_since disk new HasNoLog) (λ fs is.
          room_first g HasNoLog made (no_log fs is)
          (of_some (g.files mid) fs (LeavesOnly g.steps g.left_since mid new HasNoLog) (made.files ∙ is) (rest.log unlogged)));
      few = told (g.files disk) (FewRewritten g disk new rewrite) (λ fs is.
          let last = of_told (g.files mid) fs (FewRewritten g mid new rewrite) (made.files ∙ is) rest.few in
          (omega (arith, made.steps, last.0), omega (arith, made.steps, last.1)));
      calls = calls_first made rest.calls;
    }

    -- and then the files became these
    pub rewrites_first : {mid new : D} {before between after : Known} → OnlyReserves g disk mid → between ≡ before
        → RewritesFiles g rewrite v mid new between after → RewritesFiles g rewrite v disk new before after
    rewrites_first {mid} {new} made same rest = record {
      files = rest.files ∙ ap (option_map (files_rewritten rewrite v)) made.files;
      rests = told (g.files disk) (λ fs. RestsAs v (rewritten rewrite (image_of fs.database)) (g.files new)) (λ fs is.
          of_told (g.files mid) fs (λ fs. RestsAs v (rewritten rewrite (image_of fs.database)) (g.files new)) (made.files ∙ is) rest.rests);
      settled = rest.settled;
      steps = told (g.files disk) (λ fs. g.steps new ≡ g.steps disk + rewrite_calls rewrite fs.database) (λ fs is.
          let last = of_told (g.files mid) fs (λ fs. g.steps new ≡ g.steps mid + rewrite_calls rewrite fs.database)
          (made.files ∙ is) rest.steps in
          omega (arith, last, made.steps));
      label = rest.label;
      len = rest.len ∙ ap (λ (pages : Known). len_rewritten rewrite pages.len) same;
      agrees = rest.agrees;
      room = rest.room;
    }
