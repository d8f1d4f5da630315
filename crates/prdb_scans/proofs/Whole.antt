-- A pass over a draft, or over the first image in place of an empty one, is one over the image that is read whole.
use Rattle.std.proofs.Common.{◌≡◌, ℕ, ◌<◌, List, [], Option, Some, None, IfSome, Result, Ok, Err, IfErr, length, ap, subst, ◌∙◌, arith}
use Rattle.std.proofs.lemmas.Bool.{le-leb}
use Rattle.db_image.specs.declared.faults.RecordFault.{RecordFault}
use Rattle.db_image.specs.declared.faults.RecordFault.TheVariants.{DiskFault, BadRecord, NoMemory}
use Rattle.db_blocks.specs.Ascending.{AreGood}
use Rattle.db_blocks.specs.Blocks.{block_in as any_block, kind_of}
use Rattle.db_blocks.specs.Ends.{HasCause}
use Rattle.prdb_layout.specs.Records.{block_in}
use Rattle.prdb_layout.specs.Registry.{Registry}
use Rattle.prdb_layout.proofs.LaidOut.{kind_small}
use Rattle.prdb_lists.specs.Members.{Members}
use Rattle.entry_scans.specs.Pages.{is_kind}
use Rattle.prdb_finds.specs.Ends.{HoldsSome}
use Rattle.prdb_finds.specs.Records.{Holds, whole}
use Rattle.prdb_finds.specs.Unchained.{unchained}
use Rattle.prdb_finds.proofs.Lookups.{same_block}
use Rattle.prdb_finds.proofs.Told.{empty_is, laid_without, whole_same}
use Rattle.prdb_finds.proofs.Without.{unchained_count, unchained_kind}

-- ---- when it answers a bad record

good : (image : List ℕ) (r : Registry) (m : Members) → Holds image r m → AreGood 2112 is_kind (whole image)
good image r m holds =
    let old = whole image in
    let laid = laid_without image r m holds in
    record {
      whole = holds.size;
      each = λ k below.
          let small = kind_small (block_in (unchained old) k) (laid.blocks k (omega (arith, below, unchained_count old holds.size))) in
          let same = unchained_kind old k holds.size below in
          le-leb (kind_of (any_block 2112 old k)) 2 (omega (arith, small, same, ap kind_of (same_block old k)));
    }

pub err_whole : {X : Type 0} (res : Result X RecordFault) (bytes : Option (List ℕ)) (len : ℕ)
    → IfSome bytes (λ image. length image ≡ len) → 0 < len → IfErr res (HasCause bytes (AreGood 2112 is_kind))
    → IfErr res (HasCause bytes HoldsSome)
err_whole (Ok x) bytes len told some is = tt
err_whole (Err DiskFault) bytes len told some is = tt
err_whole (Err NoMemory) bytes len told some is = tt
err_whole (Err (BadRecord at)) None len told some is = tt
err_whole (Err (BadRecord at)) (Some image) len told some is = λ held.
    is (subst (AreGood 2112 is_kind) (whole_same image (omega arith)) (good image held.0 held.1 held.2))

pub err_first : {X : Type 0} (res : Result X RecordFault) (bytes first : Option (List ℕ)) (len : ℕ)
    → IfSome bytes (λ image. length image ≡ len) → len ≡ 0 → first ≡ Some (whole [])
    → IfErr res (HasCause first (AreGood 2112 is_kind)) → IfErr res (HasCause bytes HoldsSome)
err_first (Ok x) bytes first len told none here is = tt
err_first (Err DiskFault) bytes first len told none here is = tt
err_first (Err NoMemory) bytes first len told none here is = tt
err_first (Err (BadRecord at)) None first len told none here is = tt
err_first (Err (BadRecord at)) (Some image) first len told none here is = λ held.
    let not = subst (λ (b : Option (List ℕ)). HasCause b (AreGood 2112 is_kind) (BadRecord at)) here is in
    not (subst (λ (i : List ℕ). AreGood 2112 is_kind (whole i)) (empty_is image (told ∙ none)) (good image held.0 held.1 held.2))
