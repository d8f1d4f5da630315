-- A write that a server keeps of another one has changes that are puts alone.
use Rattle.std.proofs.Common.{Bool, true, false, cond, ◌==◌, ◌≡◌, ℕ, zero, suc, ◌+◌, max, nat_lt, List, [], ◌∷◌, ◌++◌, length, refl, sym, ap, subst, ◌∙◌}
use Rattle.std.specs.List.{AllByRecursion}
use Rattle.std.specs.Prelude.{Option, Some, None, option_and_then}
use Rattle.std.specs.Str.{bytes_eq}
use Rattle.ubik_types.specs.declared.images.Change.{Change}
use Rattle.ubik_types.specs.declared.images.Change.TheVariants.{Put, Cut}
use Rattle.ubik_types.specs.declared.versions.Version.{Version}
use Rattle.ubik_types.specs.Logged.{gap_before, logged}
use Rattle.ubik_types.specs.Version.{version_eq}
use Rattle.db_image.specs.Blocks.{block_at, block_change, block_changes, changes_between}
use Rattle.db_image.specs.Database.{Database}
use Rattle.cell_model.specs.Book.{Book}
use Rattle.cell_model.specs.Node.{KeptWrite}
use Rattle.cell_model.specs.Pieces.{joined, changes_in}
use Rattle.cell_model.specs.Receiver.{changes_of_length, whole_changes, whole_write}
use Rattle.cell_model.specs.SingleCopy.{image_after}
use Rattle.cell_pages.specs.Images.{KeepsImages}
use Rattle.cell_pages.specs.WritesOnTheWay.{last_changes, IsWriteOf, KeptIsWrite}
use Rattle.cell_pages.proofs.Texts.{changes_in_text, joined_text}
use Rattle.flight_laws.specs.Taken.{IsPut}

abbrev pub AllPuts : List Change → Type 0
AllPuts changes = AllByRecursion IsPut changes

both_put : (a b : List Change) → AllPuts a → AllPuts b → AllPuts (a ++ b)
both_put [] b first second = second
both_put (one ∷ a) b first second = (first.0, both_put a b first.1 second)

-- ---- the changes between two images

abbrev one_block : (old new : List ℕ) → Bool → (at size : ℕ) → List Change
one_block old new b at size = cond b [] (Put at (block_at new at size) ∷ [])

one_put : (old new : List ℕ) (at size : ℕ) (b : Bool) → AllPuts (one_block old new b at size)
one_put old new at size true = tt
one_put old new at size false = (tt, tt)

block_put : (old new : List ℕ) (at size : ℕ) → AllPuts (block_change old new at size)
block_put old new at size = one_put old new at size (bytes_eq (block_at new at size) (block_at old at size))

blocks_put : (old new : List ℕ) (at size count : ℕ) → AllPuts (block_changes old new at size count)
blocks_put old new at size zero = tt
blocks_put old new at size (suc count) =
    both_put (block_change old new at size) (block_changes old new (at + size) size count) (block_put old new at size)
    (blocks_put old new (at + size) size count)

between_put : (old new : List ℕ) (head block : ℕ) → AllPuts (changes_between head block old new)
between_put old new head block =
    both_put (block_change old new 0 head) (block_changes old new head block (length new)) (block_put old new 0 head)
    (blocks_put old new head block (length new))

-- ---- the changes as a store keeps them

gap_put : (b : Bool) (len : ℕ) (bytes : List ℕ) → AllPuts (cond b (Put len bytes ∷ []) [])
gap_put true len bytes = (tt, tt)
gap_put false len bytes = tt

pub logged_put : (len : ℕ) (changes : List Change) → AllPuts changes → AllPuts (logged len changes)
logged_put len [] all = tt
logged_put len (Put at bytes ∷ changes) all =
    both_put (gap_before len at) (Put at bytes ∷ logged (max len (at + length bytes)) changes) (gap_put (nat_lt len at) len _)
    (tt, logged_put (max len (at + length bytes)) changes all.1)
logged_put len (Cut to ∷ changes) all = absurd all.0

-- ---- a kept write

some_is : {A : Type 0} (x y : A) → ◌≡◌ {A = Option A} (Some x) (Some y) → x ≡ y
some_is x y e = cc

module _ (db : Database) (good : KeepsImages db) (book : Book) where
  -- its changes are those of the single copy by the transaction that it has
  pub kept_put : (v new : Version) (kept : Option KeptWrite) (changes : List Change) →
      whole_write new kept ≡ Some changes → KeptIsWrite db book v kept → AllPuts changes
  kept_put v new None changes whole kept = absurd (cc)
  kept_put v new (Some w) changes whole kept = by (version_eq w.new new) whole
    where
      write : IsWriteOf db book w.new kept.text
      write = kept.write.0

      last_put : AllPuts (last_changes db kept.write.0.before kept.write.0.last)
      last_put =
          between_put (image_after db kept.write.0.before) (image_after db (kept.write.0.before ++ kept.write.0.last ∷ [])) db.head db.block

      long : (joint : List ℕ) → joint ≡ kept.text → (t : Bool) → cond t (changes_in joint) None ≡ Some changes →
          changes ≡ last_changes db kept.write.0.before kept.write.0.last
      long joint same true at =
          some_is changes (last_changes db kept.write.0.before kept.write.0.last)
          (sym at ∙ ap changes_in (same ∙ kept.write.0.text_is good)
          ∙ changes_in_text (last_changes db kept.write.0.before kept.write.0.last) (kept.write.0.spelled good))
      long joint same false at = absurd (cc)

      read : (o : Option (List ℕ)) → joined w.pieces ≡ o → option_and_then (changes_of_length w.len) o ≡ Some changes →
          changes ≡ last_changes db kept.write.0.before kept.write.0.last
      read None at is = absurd (cc)
      read (Some joint) at is =
          long joint (joined_text kept.text w.pieces joint (kept.pieces good) kept.count at) (length joint == w.len) is

      by : (t : Bool) → cond t (whole_changes w) None ≡ Some changes → AllPuts changes
      by true at = subst AllPuts (sym (read (joined w.pieces) refl at)) last_put
      by false at = absurd (cc)
