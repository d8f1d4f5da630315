use Rattle.std.proofs.Common.{◌≡◌, ◌++◌, ◌∙◌, List, ap, length, map, take, string_bytes}
use Rattle.afs_words.specs.Tables.{common_parameters, parameters_of}
use Rattle.afs_words.specs.declared.tables.Parameter.{Parameter}
use Rattle.afs_words.proofs.Judging.{command_made}
use Rattle.afs_words.proofs.reading.read_command.Goals as goal

pub tool_command-requires : goal.tool_command-requires
tool_command-requires c =
    let all : c.as_slice.result.now ≡ parameters_of c.args.operation ++ common_parameters =
    c.as_slice.ensures.value ∙ c.in_ok-parameters.ensures ∙ ap (λ (ps : List Parameter). ps ++ common_parameters) c.parameters-own.ensures in
    let own : c.truncate.new.self ≡ take (length (parameters_of c.args.operation)) c.in_ok-switches.switches =
    c.truncate.ensures ∙ ap (λ (ps : List Parameter). take (length ps) c.in_ok-switches.switches) c.parameters-own.ensures in
    (command_made c.args.operation (map string_bytes c.args.words.now) c.as_slice.result.now c.in_ok-switches.switches c.truncate.new.self
    all c.in_ok-switches.ensures own).1

pub returns : goal.returns
returns c = λ other.
    let all : c.as_slice.result.now ≡ parameters_of c.args.operation ++ common_parameters =
    c.as_slice.ensures.value ∙ c.in_ok-parameters.ensures ∙ ap (λ (ps : List Parameter). ps ++ common_parameters) c.parameters-own.ensures in
    let own : c.truncate.new.self ≡ take (length (parameters_of c.args.operation)) c.in_ok-switches.switches =
    c.truncate.ensures ∙ ap (λ (ps : List Parameter). take (length ps) c.in_ok-switches.switches) c.parameters-own.ensures in
    (command_made c.args.operation (map string_bytes c.args.words.now) c.as_slice.result.now c.in_ok-switches.switches c.truncate.new.self
    all c.in_ok-switches.ensures own).0
