-- The front of an entry's block is spelled by the entry that it tells.
use Rattle.std.proofs.Common.{◌≡◌, ℕ, suc, zero, ◌<◌, List, length, take, refl, sym, ap, ◌∙◌, arith}
use Rattle.db_blocks.specs.Bytes.{words, zeros}
use Rattle.prdb_layout.specs.Layout.{layout, head_of, block_of as entry_block, numbers_of}
use Rattle.db_blocks.specs.Blocks.{block_in as any_block}
use Rattle.prdb_layout.specs.Records.{block_in, field_numbers, with_fields}
use Rattle.prdb_layout.specs.State.{PrEntry, IsPrEntry, fixed_entries, initial_state}
use Rattle.prdb_layout.proofs.EntryFields.{entry_with}
use Rattle.prdb_lists.specs.Layout.{IsSpelled}

front_with : (e : PrEntry) (block : List ℕ) → take 24 (with_fields e block) ≡ words (field_numbers e)
unfolding with_fields words field_numbers
front_with e block = refl

pub fields_spelled : (e : PrEntry) (block : List ℕ) → length block ≡ 192 → IsPrEntry e → IsSpelled (with_fields e block)
fields_spelled e block len is = front_with e block ∙ ap (λ (x : PrEntry). words (field_numbers x)) (sym (entry_with e block len is))

pub first_spelled : (k : ℕ) → k < 6 → IsSpelled (block_in (layout initial_state) k)
unfolding any_block layout head_of words zeros fixed_entries entry_block numbers_of field_numbers
first_spelled zero below = refl
first_spelled (suc zero) below = refl
first_spelled (suc (suc zero)) below = refl
first_spelled (suc (suc (suc zero))) below = refl
first_spelled (suc (suc (suc (suc zero)))) below = refl
first_spelled (suc (suc (suc (suc (suc zero))))) below = refl
first_spelled (suc (suc (suc (suc (suc (suc k)))))) below = absurd (omega arith)
