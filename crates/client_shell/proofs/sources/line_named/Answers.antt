use Rattle.std.specs.Fmt.{decimal}
use Rattle.tool_help.specs.Sentences.{tool_name}
use Rattle.client_shell.proofs.Naming.{line_written}
use Rattle.client_shell.proofs.sources.line_named.Goals as goal

pub returns : goal.returns
returns c =
    line_written _ _ _ (tool_name c.args.tool) (decimal c.args.number) (decimal c.args.own) c.in_ok-write.ensures.bytes
    c.new-text.ensures.bytes c.tool_name-command.ensures
