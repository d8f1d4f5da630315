-- A durable call over the pages and the files of a disk: what it makes, and what a crash leaves of it (own).
use Rattle.std.specs.Prelude.{◌≡◌, ◌+◌, true, Some, IfSome}
use Rattle.std.specs.Option.{option_map}
use Rattle.ubik_types.specs.declared.versions.Version.{Version}
use Rattle.ubik_types.specs.Version.{zero_version, version_lt}
use Rattle.disk_base.specs.declared.disks.Disk.{Ghosts}
use Rattle.disk_base.specs.Crash.{LeavesOnly, IsSettled, RisesAtMost}
use Rattle.page_file.specs.Label.{version_of_database}
use Rattle.page_file.specs.Pages.{Known, AgreesIn, image_of}
use Rattle.ubik_store.specs.Calls.{CallsAtMost}
use Rattle.ubik_store.specs.Files.{StandsForEither}
use Rattle.ubik_store.specs.Gaps.{IsPlain}
use Rattle.ubik_store.specs.Rest.{RestsAs, CanRelabel, HasNoLog}
use Rattle.ubik_store.specs.Rewrite.{Rewrite, rewritten, len_rewritten, rewrite_calls, most_calls, KeepsPuts, IsUnlogged, files_rewritten}

-- The image is rewritten under this version, in so many changing calls. Files at rest are left, with which the pages agree, and room for a
-- relabelling.
pub record RewritesFiles {D : Type 0} (g : Ghosts D) (rewrite : Rewrite) (v : Version) (old new : D) (before after : Known) : Type 0 where
  pub files : g.files new ≡ option_map (files_rewritten rewrite v) (g.files old)
  pub rests : IfSome (g.files old) (λ fs. RestsAs v (rewritten rewrite (image_of fs.database)) (g.files new))
  pub settled : IsSettled (g.files new) (g.may_leave new)
  pub steps : IfSome (g.files old) (λ fs. g.steps new ≡ g.steps old + rewrite_calls rewrite fs.database)
  pub label : after.version ≡ Some v
  pub len : after.len ≡ len_rewritten rewrite before.len
  pub agrees : AgreesIn after (g.files new)
  pub room : CanRelabel g new

-- Done or not, a crash at any moment of the call leaves files that stand for the version and image before it or for those after it. Where
-- no cut goes to before an earlier put, and the version is not the first one, plain files stay plain. Where it does not go through the log,
-- none is there at any moment. It makes no more changing calls than one that is done.
pub record IsDurableOver {D : Type 0} (g : Ghosts D) (rewrite : Rewrite) (v : Version) (old new : D) (failed : Type 0) : Type 0 where
  pub moments : IfSome (g.files old) (λ fs. (own : Version) → version_of_database fs.database ≡ Some own
      → LeavesOnly g.steps g.left_since old new (StandsForEither own (image_of fs.database) v (rewritten rewrite (image_of fs.database))))
  pub plain : version_lt zero_version v ≡ true → KeepsPuts rewrite
      → IfSome (g.files old) (λ fs. IsPlain fs → LeavesOnly g.steps g.left_since old new IsPlain)
  pub log : IsUnlogged rewrite → IfSome (g.files old) (λ _. LeavesOnly g.steps g.left_since old new HasNoLog)
  pub few : IfSome (g.files old) (λ fs. RisesAtMost (rewrite_calls rewrite fs.database) (g.steps old) (g.steps new))
  pub calls : CallsAtMost g (most_calls rewrite) old new failed
