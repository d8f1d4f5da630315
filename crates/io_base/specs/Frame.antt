-- What a link knows of a frame: the length in its first four bytes, the high byte first, counts what follows.
use Rattle.std.specs.Prelude.{◌≡◌, ℕ, ◌+◌, ◌≤◌, List, length, take}
use Rattle.std.specs.Int.{w32, from_be_bytes}
use Rattle.io_base.specs.declared.frames.TheConstants.{MAX_FRAME}

pub record IsWhole (frame : List ℕ) : Type 0 where
  pub len : length frame ≡ 4 + from_be_bytes w32 (take 4 frame)
  pub fits : length frame ≤ MAX_FRAME
