-- The empty image holds no pairs.
use Rattle.std.proofs.Common.{◌≡◌, ℕ, zero, suc, ◌<◌, List, [], drop, refl, sym, subst, arith}
use Rattle.db_blocks.specs.Bytes.{words, zeros}
use Rattle.db_blocks.specs.Blocks.{block_in as any_block, kind_of}
use Rattle.prdb_layout.specs.Layout.{layout, head_of, block_of as entry_block, numbers_of}
use Rattle.prdb_layout.specs.Records.{block_in}
use Rattle.prdb_layout.specs.Registry.{first_registry}
use Rattle.prdb_layout.specs.State.{fixed_entries, initial_state}
use Rattle.prdb_layout.proofs.FirstImage.{empty_holds}
use Rattle.prdb_layout.proofs.Initial.{length-initial}
use Rattle.prdb_lists.specs.Layout.{AreLists, HoldsPairs, PairList, id_field}
use Rattle.prdb_lists.specs.Members.{no_members}
use Rattle.prdb_lists.proofs.ListFound.{front_zero, whole_none}
use Rattle.prdb_lists.proofs.Spelled.{first_spelled}

first_zero : (k : ℕ) → k < 6 → drop 112 (block_in (layout initial_state) k) ≡ id_field 80 []
unfolding any_block layout head_of words zeros fixed_entries entry_block numbers_of
first_zero zero below = refl
first_zero (suc zero) below = refl
first_zero (suc (suc zero)) below = refl
first_zero (suc (suc (suc zero))) below = refl
first_zero (suc (suc (suc (suc zero)))) below = refl
first_zero (suc (suc (suc (suc (suc zero))))) below = refl
first_zero (suc (suc (suc (suc (suc (suc k)))))) below = absurd (omega arith)

first_kind : (k : ℕ) → k < 6 → kind_of (block_in (layout initial_state) k) ≡ 1
unfolding any_block layout head_of words zeros fixed_entries entry_block numbers_of
first_kind zero below = refl
first_kind (suc zero) below = refl
first_kind (suc (suc zero)) below = refl
first_kind (suc (suc (suc zero))) below = refl
first_kind (suc (suc (suc (suc zero)))) below = refl
first_kind (suc (suc (suc (suc (suc zero))))) below = refl
first_kind (suc (suc (suc (suc (suc (suc k)))))) below = absurd (omega arith)

no_list : PairList
no_list = record { ids = []; more = [] }

first_lists : AreLists (layout initial_state) first_registry (λ id. no_list)
unfolding no_list
first_lists = record {
  listed = λ k below kind.
      let six : k < 6 = omega (arith, below, length-initial) in
      record {
        ascending = λ i j d less in_j. absurd (omega arith);
        fits = λ i d in_i. absurd (omega arith);
        few = omega arith;
        front = front_zero k six;
        first = first_zero k six;
        chain = refl;
      };
  used = λ k below kind. let one = first_kind k (omega (arith, below, length-initial)) in absurd (omega arith);
  once = λ id there i j d less in_j. absurd (omega arith);
  spelled = λ k below kind. first_spelled k (omega (arith, below, length-initial));
}

pub holds_none : HoldsPairs [] first_registry no_members
unfolding no_list
holds_none = record {
  holds = empty_holds;
  valid = λ member group has. absurd cc;
  lists = λ id. no_list;
  are = subst (λ (i : List ℕ). AreLists i first_registry (λ id. no_list)) (sym whole_none) first_lists;
  each = λ id there other c. absurd (omega (arith, c.1));
  all = λ id there other paired. absurd cc;
}
