-- What came over a connection and was not taken yet.
use Rattle.std.specs.Prelude.{ℕ, List, slice_range}
use Rattle.tcp_net.specs.declared.inputs.Input.{Input}

abbrev pub waiting : Input → List ℕ
waiting input = slice_range input.bytes.items input.start input.end
