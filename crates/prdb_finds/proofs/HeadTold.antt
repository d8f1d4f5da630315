-- The maxima that the head of an image tells, whatever its chains are.
use Rattle.std.proofs.Common.{◌≡◌, ℕ, ℤ, pos, negsuc, ◌+◌, ◌<◌, ◌≤◌, inl, List, Option, Some, None, IfSome, length, take, drop, refl, sym, ap, subst, ◌∙◌, arith}
use Rattle.std.specs.Int.{w32, cast_signed, from_be_bytes}
use Rattle.std.proofs.lemmas.List.{drop-take, length-take-le, take-take}
use Rattle.db_image.specs.Draft.{Drafted, StaysAsItWas}
use Rattle.db_image.specs.Images.{ReadsAtMost}
use Rattle.db_image.specs.declared.images.ImageRead.{Ghosts}
use Rattle.db_image.specs.declared.faults.RecordFault.{RecordFault}
use Rattle.db_image.specs.declared.faults.RecordFault.TheVariants.{DiskFault, BadRecord, NoMemory}
use Rattle.db_blocks.specs.Blocks.{IsWhole, word_at, blanked}
use Rattle.db_blocks.specs.Ends.{HasCause}
use Rattle.db_chains.specs.Ends.{LooksAtMost}
use Rattle.db_chains.proofs.Bytes.{word_stays, blanked_len, blanked_stays}
use Rattle.prdb_layout.specs.Records.{maxima_in, signed_at}
use Rattle.prdb_layout.specs.Registry.{AreMaxima, Registry}
use Rattle.prdb_layout.proofs.Held.{maxima_of}
use Rattle.prdb_layout.proofs.LaidOut.{whole_same as entries_same}
use Rattle.prdb_layout.proofs.MaximaRead.{maxima_read}
use Rattle.prdb_lists.specs.Members.{Members}
use Rattle.prdb_finds.specs.Ends.{HoldsSome}
use Rattle.prdb_finds.specs.Records.{Holds, whole}
use Rattle.prdb_finds.specs.Unchained.{unchained, unlinked_head}
use Rattle.prdb_finds.proofs.FirstChains.{first_maxima}
use Rattle.prdb_finds.proofs.Told.{empty_is, laid_without, whole_same}
use Rattle.prdb_finds.proofs.Without.{unchained_head}

in_front : (image : List ℕ) (p more : ℕ) → p + more ≡ 2112 → 4 ≤ more → word_at (take 2112 image) p ≡ word_at image p
in_front image p more size long =
    ap (λ (n : ℕ). word_at (take n image) p) (sym size)
    ∙ ap (λ (b : List ℕ). from_be_bytes w32 (take 4 b)) (drop-take p more image)
    ∙ ap (from_be_bytes w32) (take-take 4 more (drop p image) long)

-- a word before the first free block
unlinked_word : (head : List ℕ) (p : ℕ) → length head ≡ 2112 → p + 4 ≤ 20 → word_at (unlinked_head head) p ≡ word_at head p
unfolding unlinked_head
unlinked_word head p size within =
    let mid = blanked 20 4 head in
    let len : length mid ≡ 2112 = blanked_len 20 4 head (omega arith) ∙ size in
    word_stays 64 2048 p mid (blanked 64 2048 mid) (blanked_stays 64 2048 mid (omega arith)) (omega arith) (inl (omega arith))
    ∙ word_stays 20 4 p head mid (blanked_stays 20 4 head (omega arith)) (omega arith) (inl (omega arith))

pub word_told : (image : List ℕ) (p more : ℕ) → IsWhole 2112 image → p + more ≡ 2112 → 4 ≤ more → p + 4 ≤ 20
    → word_at (unchained image) p ≡ word_at image p
word_told image p more whole_is size long within =
    let head : length (take 2112 image) ≡ 2112 = length-take-le 2112 image (omega (arith, whole_is)) in
    sym (in_front (unchained image) p more size long)
    ∙ ap (λ (h : List ℕ). word_at h p) (unchained_head image whole_is)
    ∙ unlinked_word (take 2112 image) p head within
    ∙ in_front image p more size long

pub told_maxima : (image : List ℕ) (r : Registry) (m : Members) → Holds image r m → maxima_in (whole image) ≡ (r.max_user, r.max_group)
told_maxima image r m holds =
    let old = whole image in
    let user : word_at (unchained old) 8 ≡ word_at old 8 = word_told old 8 2104 holds.size refl (omega arith) (omega arith) in
    let group : word_at (unchained old) 12 ≡ word_at old 12 = word_told old 12 2100 holds.size refl (omega arith) (omega arith) in
    ap (λ (n : ℕ). (cast_signed w32 n, signed_at old 12)) (sym user)
    ∙ ap (λ (n : ℕ). (signed_at (unchained old) 8, cast_signed w32 n)) (sym group)
    ∙ maxima_of (unchained old) r (laid_without image r m holds) holds.pairs.holds.valid.maxima

pub maxima_found : (bytes : Option (List ℕ)) (found : ℤ × ℤ) → IfSome bytes (λ image. found ≡ maxima_in (whole image))
    → IfSome bytes (λ image. (r : Registry) (m : Members) → Holds image r m → found ≡ (r.max_user, r.max_group))
maxima_found None found is = tt
maxima_found (Some image) found is = λ r m holds. is ∙ told_maxima image r m holds

pub maxima_empty : (bytes : Option (List ℕ)) (len : ℕ) → IfSome bytes (λ image. length image ≡ len) → len ≡ 0
    → IfSome bytes (λ image. (pos 0, negsuc 204) ≡ maxima_in (whole image))
maxima_empty None len told none = tt
maxima_empty (Some image) len told none =
    sym first_maxima ∙ ap (λ (i : List ℕ). maxima_in (whole i)) (sym (empty_is image (told ∙ none)))

-- the words that were read
pub read_maxima : (bytes : Option (List ℕ)) (len : ℕ) (buf : List ℕ) → IfSome bytes (λ image. length image ≡ len) → 0 < len
    → IfSome bytes (λ image. buf ≡ take 8 (drop 8 image))
    → IfSome bytes (λ image. (signed_at buf 0, signed_at buf 4) ≡ maxima_in (whole image))
read_maxima None len buf told more is = tt
read_maxima (Some image) len buf told more is =
    maxima_read (Some image) len buf told more is ∙ ap maxima_in (entries_same image (omega arith) ∙ sym (whole_same image (omega arith)))

-- maxima out of range are of no registry
pub maxima_bad : (bytes : Option (List ℕ)) (at : ℕ) (found : ℤ × ℤ) → IfSome bytes (λ image. found ≡ maxima_in (whole image))
    → (AreMaxima found.0 found.1 → ⊥) → HasCause bytes HoldsSome (BadRecord at)
maxima_bad None at found is bad = tt
maxima_bad (Some image) at found is bad = λ held.
    bad (subst (λ (x : ℤ × ℤ). AreMaxima x.0 x.1) (sym (is ∙ told_maxima image held.0 held.1 held.2)) held.2.pairs.holds.valid.maxima)

-- a read of a draft that is no failure of the call
pub looks_read : {I : Type 0} (g : Ghosts I) (old new : Drafted I) (most : ℕ) (first failed : Type 0) → StaysAsItWas old new
    → ReadsAtMost g most old.image new.image first → (failed → ⊥) → LooksAtMost g most old new failed
looks_read g old new most first failed same reads never = record {
  looks = record {
    same = same;
    reads = record {
      held = reads.reads.held;
      size = reads.reads.size;
      came = reads.reads.came;
      never_falls = reads.reads.never_falls;
      cause = λ f. absurd (never f);
    };
  };
  cost = reads.asked;
}

-- an image that is no head and whole blocks holds none
pub fault_size : (bytes : Option (List ℕ)) (len : ℕ) (fault : RecordFault) → IfSome bytes (λ image. length image ≡ len) → 0 < len
    → HasCause bytes (IsWhole 2112) fault → HasCause bytes HoldsSome fault
fault_size bytes len DiskFault told more cause = tt
fault_size bytes len NoMemory told more cause = tt
fault_size None len (BadRecord at) told more cause = tt
fault_size (Some image) len (BadRecord at) told more cause = λ held.
    cause (subst (λ (i : List ℕ). IsWhole 2112 i) (whole_same image (omega arith)) held.2.size)
