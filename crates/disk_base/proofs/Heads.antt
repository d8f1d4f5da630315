-- The head of a file that was read, where the disk tells its files.
use Rattle.std.proofs.Common.{◌≡◌, ◌<◌, ◌≤◌, ◌∙◌, ℕ, min, List, ◌++◌, length, take, drop, get_or, replicate, Option, Some, None, IfSome, arith, ap, length-take}
use Rattle.std.proofs.lemmas.Grind.{common_steps}
use Rattle.std.proofs.lemmas.List.{get_or-replicate}
use Rattle.disk_base.specs.declared.disks.FileNo.{FileNo}
use Rattle.disk_base.specs.Files.{Files, file_of}
use Rattle.disk_base.specs.Taking.{IsHeadOf}

-- a front of a list has the length that was asked for
pub length_front : (list : List ℕ) (n : ℕ) → n ≤ length list → length (take n list) ≡ n
length_front list n within = omega (arith, length-take n list)

-- the first bytes of a file, and behind them zero bytes
head_byte : (file bytes zeros : List ℕ) (n k : ℕ) → ((j : ℕ) → j < 64 → get_or zeros j 0 ≡ 0) → length zeros ≡ 64 → n ≡ min (length file) 64 → bytes ≡ take n file → k < 64 → get_or (bytes ++ drop n zeros) k 0 ≡ get_or file k 0
head_byte file bytes zeros n k zero long is read below = grind (arith, common_steps)

head_length : (file bytes zeros : List ℕ) (n : ℕ) → length zeros ≡ 64 → n ≡ min (length file) 64 → bytes ≡ take n file → length (bytes ++ drop n zeros) ≡ 64
head_length file bytes zeros n long is read = grind (arith, common_steps)

-- the first bytes of a file that were read over zero bytes are its head
pub head_read : (files : Option Files) (f : FileNo) (len n m : ℕ) (bytes : List ℕ) → n ≡ min len 64 → m ≡ n → IfSome files (λ fs. len ≡ length (file_of fs f))
    → IfSome files (λ fs. bytes ≡ take m (drop 0 (file_of fs f))) → IfSome files (λ fs. IsHeadOf (bytes ++ drop n (replicate 64 0)) (file_of fs f))
head_read None f len n m bytes is same told read = tt
head_read (Some fs) f len n m bytes is same told read =
    let zeros : List ℕ = replicate 64 0 in
    let file = file_of fs f in
    let first : n ≡ min (length file) 64 = is ∙ ap (λ (k : ℕ). min k 64) told in
    let front : bytes ≡ take n file = read ∙ ap (λ (i : ℕ). take i file) same in
    record {
      len = head_length file bytes zeros n (omega arith) first front;
      bytes = λ k below. head_byte file bytes zeros n k (λ j h. get_or-replicate 64 j 0 0 h) (omega arith) first front below;
    }
