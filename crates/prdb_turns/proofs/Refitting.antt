-- Entries of a draft get other fields, one after the other.
use Rattle.std.proofs.Common.{◌≡◌, ℕ, ℤ, ◌+◌, ◌<◌, ◌≤◌, List, length, get_or, max, arith}
use Rattle.db_image.specs.Draft.{Drafted}
use Rattle.db_image.specs.declared.images.ImageRead.{Ghosts}
use Rattle.db_blocks.specs.Ends.{OnlyDrafts}
use Rattle.db_blocks.proofs.Scanned.{drafts_then}
use Rattle.prdb_layout.specs.State.{PrEntry}
use Rattle.prdb_lists.proofs.Written.{drafts_none, drafts_so}
use Rattle.prdb_turns.proofs.Refits.{AreRefitted, LeavesOne, refitted_more, refitted_none}

pub record Refitting {I : Type 0} (g : Ghosts I) (made : PrEntry → PrEntry) (first now : Drafted I) (ids : List ℤ) (done : ℕ) : Type 0 where
  pub frame : OnlyDrafts g first now ⊥
  pub len : now.len ≤ max first.len 3264
  pub longer : first.len ≤ now.len
  pub each : AreRefitted made first.bytes now.bytes ids done

pub refitting_none : {I : Type 0} (g : Ghosts I) (made : PrEntry → PrEntry) (d : Drafted I) (ids : List ℤ) → Refitting g made d d ids 0
refitting_none g made d ids = record {
  frame = drafts_none g d;
  len = omega arith;
  longer = omega arith;
  each = refitted_none made d.bytes ids;
}

pub refitting_more : {I : Type 0} (g : Ghosts I) (made : PrEntry → PrEntry) (first now next : Drafted I) (one : Type 0) (x : ℤ)
    (ids : List ℤ) (done : ℕ) → OnlyDrafts g now next one → next.len ≤ max now.len 3264 → now.len ≤ next.len
    → LeavesOne made x now.bytes next.bytes → x ≡ get_or ids done x → done < length ids → Refitting g made first now ids done
    → Refitting g made first next ids (done + 1)
refitting_more g made first now next one x ids done drafts len longer leaves is below p = record {
  frame = drafts_then g first now next ⊥ ⊥ p.frame (drafts_so g now next one ⊥ drafts (λ h. absurd h));
  len = omega (arith, p.len, len);
  longer = omega (arith, p.longer, longer);
  each = refitted_more made first.bytes now.bytes next.bytes x ids done below is leaves p.each;
}
