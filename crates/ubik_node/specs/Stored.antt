-- What the store of a node has.
use Rattle.std.specs.Prelude.{◌≡◌, ℕ, false, List, None, IfSome, length}
use Rattle.disk_base.specs.declared.disks.Disk.{Ghosts}
use Rattle.ubik_store.specs.declared.stores.Store.{Store}
use Rattle.ubik_store.specs.Store.{IsSound, image_in}
use Rattle.ubik_types.specs.declared.versions.Version.{Version}

-- It has the node's version and image, and nothing is begun there; or it has failed. Then the node tells what was before the step that halted
-- it, in which a durable call may have been made whole.
pub record IsStoredAs {D : Type 0} (g : Ghosts D) (store : Store D) (own : Version) (bytes : List ℕ) : Type 0 where
  pub sound : IsSound g store
  pub version : store.failed ≡ false → store.version ≡ own
  pub len : store.failed ≡ false → store.len ≡ length bytes
  pub none_begun : store.failed ≡ false → store.begun ≡ None
  pub image : store.failed ≡ false → IfSome (image_in (g.files store.disk)) (λ there. there ≡ bytes)
