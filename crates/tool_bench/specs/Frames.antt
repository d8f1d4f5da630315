-- The frames that come back (own).
use Rattle.std.specs.Prelude.{ℕ, List}
use Rattle.std.specs.List.{flat_map}
use Rattle.io_base.specs.declared.memory_links.MemAnswer.{MemAnswer}

-- the replies of answers, one behind the other
abbrev pub replies_of : List MemAnswer → List ℕ
replies_of answers = flat_map (λ (a : MemAnswer). a.reply) answers
