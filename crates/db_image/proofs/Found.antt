-- Some image has what the changed blocks of a draft found beneath, so the draft is one over it, whatever the image beneath tells.
use Rattle.std.proofs.Common.{◌≡◌, ℕ, ◌+◌, ◌-◌, ◌<◌, min, Option, Some, IfSome, List, length, map, slice_index, sym, ap, subst, ◌∙◌, arith}
use Rattle.std.specs.List.{range_with_len}
use Rattle.std.specs.Option.{ForSome, option_map_or}
use Rattle.std.proofs.lemmas.List.{ext_get_or}
use Rattle.std.proofs.lemmas.List.FromFn.{length-map-range_with_len, get_or-map-range_with_len}
use Rattle.ubik_types.specs.declared.images.Change.{Change}
use Rattle.db_image.specs.declared.overlays.Overlay.{Overlay}
use Rattle.db_image.specs.declared.overlays.ChangedBlock.{ChangedBlock}
use Rattle.db_image.specs.Blocks.{LeadSome, block_at, changes_between}
use Rattle.db_image.specs.Draft.{IsLaid, bytes_over, changed_at}
use Rattle.db_image.specs.Places.{block_number, block_size, block_start}
use Rattle.db_image.proofs.BlockNumbers.{number_same}
use Rattle.db_image.proofs.Covering.{bytes_len}
use Rattle.db_image.proofs.Differing.{block_index, block_length}

-- the byte that a block found at an offset, and a zero byte where none was changed
abbrev found_of : Option ChangedBlock → (offset : ℕ) → ℕ
found_of b offset = option_map_or (λ b. slice_index b.old.items offset) b 0

abbrev found_by : Overlay → (at : ℕ) → ℕ
found_by o at = found_of (changed_at o (block_number o.layout at)) (at - block_start o.layout (block_number o.layout at))

unfoldable found : Overlay → (size : ℕ) → List ℕ
found o size = map (found_by o) (range_with_len 0 size)

found_len : (o : Overlay) (size : ℕ) → length (found o size) ≡ size
unfolding found
found_len o size = length-map-range_with_len _ 0 size

found_at : (o : Overlay) (size at : ℕ) → at < size → slice_index (found o size) at ≡ found_by o at
unfolding found
found_at o size at below = get_or-map-range_with_len (found_by o) 0 size at at 0 below (omega arith)

-- each changed block found what that image has there
found_block : (o : Overlay) (size k : ℕ) (held : Option (List ℕ)) (b : ChangedBlock) → IsLaid o size held → changed_at o k ≡ Some b
    → b.old.items ≡ block_at (found o size) (block_start o.layout k) (block_size o.layout k)
found_block o size k held b laid is =
    let at : ℕ = block_start o.layout k in
    let all : ℕ = block_size o.layout k in
    let had : length b.old.items ≡ min (size - at) all = (laid.each k b is).had in
    let long : length (block_at (found o size) at all) ≡ min all (size - at) =
    block_length (found o size) at all ∙ ap (λ (n : ℕ). min all (n - at)) (found_len o size) in
    ext_get_or 0 b.old.items (block_at (found o size) at all) (omega (arith, had, long)) (λ i below.
    let here : block_number o.layout (at + i) ≡ k = number_same o.layout k (at + i) (omega arith) (omega (arith, below, had)) in
    let offset : at + i - at ≡ i = omega arith in
    sym (block_index (found o size) at all i (omega (arith, below, had))
    ∙ found_at o size (at + i) (omega (arith, below, had))
    ∙ ap (λ (n : ℕ). found_of (changed_at o n) (at + i - block_start o.layout n)) here
    ∙ ap (λ (c : Option ChangedBlock). found_of c (at + i - at)) is
    ∙ ap (slice_index b.old.items) offset))

some_only : (xs : List ℕ) (P : List ℕ → Type 0) → P xs → ForSome (Some xs) P
some_only xs P so ys is = subst (λ (o : Option (List ℕ)). IfSome o P) is so

laid_over_found : (o : Overlay) (size : ℕ) (held : Option (List ℕ)) → IsLaid o size held → IsLaid o size (Some (found o size))
laid_over_found o size held laid = record {
  block = laid.block;
  told = some_only (found o size) _ (found_len o size);
  longer = laid.longer;
  each = λ k b is.
      let changed = laid.each k b is in
      record {
        full = changed.full;
        zero = changed.zero;
        old = some_only (found o size) _ (found_block o size k held b laid is);
        had = changed.had;
      };
  grown = laid.grown;
}

-- so its changes lead from that image on
pub lead_some : (o : Overlay) (size : ℕ) (held : Option (List ℕ)) (changes : List Change) → IsLaid o size held
    → ((beneath : List ℕ) → IsLaid o size (Some beneath) → changes ≡ changes_between o.layout.head o.layout.block beneath (bytes_over o beneath))
    → LeadSome o.layout.head o.layout.block size o.len changes
lead_some o size held changes laid are = record {
  old = found o size;
  new = bytes_over o (found o size);
  before = found_len o size;
  after = bytes_len o (found o size);
  longer = laid.longer;
  between = are (found o size) (laid_over_found o size held laid);
}
