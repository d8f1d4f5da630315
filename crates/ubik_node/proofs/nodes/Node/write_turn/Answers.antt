use Rattle.std.proofs.Common.{◌≢◌, ◌++◌, ◌∙◌, inl, [], ◌∷◌, None, true, ℕ, List, length, take, refl, sym, ap, length-append, arith}
use Rattle.ubik_calls.specs.declared.replies.Reply.TheVariants as reply
use Rattle.ubik_store.specs.declared.faults.StoreFault.TheVariants.{DiskFault}
use Rattle.cell_model.specs.declared.events.Output.{Output}
use Rattle.cell_model.specs.declared.events.Output.TheVariants as output
use Rattle.ubik_node.specs.Node.{held}
use Rattle.ubik_node.proofs.Endings.{fault_is, read_ends}
use Rattle.ubik_node.proofs.Evaluated.{one_chosen}
use Rattle.ubik_node.proofs.Turns.{named_fault}
use Rattle.ubik_node.proofs.nodes.Node.write_turn.Goals as goal

pub returns-in-DiskFault-clause-ends : goal.returns-in-DiskFault-clause-ends
returns-in-DiskFault-clause-ends g c =
    (record c.in-Err.ensures.ends.0 { short = [] }, named_fault g.D.Disk c.in-Err.fault c.in-DiskFault.is c.in-Err.ensures.ends.1)

pub returns-in_default-clause-ends : goal.returns-in_default-clause-ends
returns-in_default-clause-ends g c =
    let n = c.args.self.now in
    let last = c.make_write.new.self in
    let ends = c.in-Err.ensures.ends.1 in
    let other : c.in-Err.fault ≢ DiskFault = c.in_default.not-DiskFault in
    let short = ends.leaves.short other in (
      one_chosen g.V.DraftService.standing None tt (true ∷ []),
      read_ends g.D.Disk (held n) (held last) ends.last ends.member c.args.self.now.stored c.requires.not_halted short.1 (λ none. none) (ends.leaves.runs (λ is. other (fault_is c.in-Err.fault is))) refl (λ meant. (
        sym (ends.state other),
        c.put_reply.ensures ∙ ap (λ (o : List Output). o ++ output.Reply c.args.id reply.NoMemory ∷ []) (c.cut.ensures ∙ ap (λ (k : ℕ). take k c.make_write.new.out) c.len-before.ensures ∙ c.in-Err.ensures.front),
      )),
    )

pub returns-in_default-clause-alike : goal.returns-in_default-clause-alike
returns-in_default-clause-alike g c = inl (
  c.in-Err.ensures.ends.1.state c.in_default.not-DiskFault,
  λ image same. (
    record { short = true ∷ []; told = []; may = tt },
    record {
      server = refl;
      calls = refl;
      outputs = c.put_reply.ensures ∙ ap (λ (o : List Output). o ++ output.Reply c.args.id reply.NoMemory ∷ []) (c.cut.ensures ∙ ap (λ (k : ℕ). take k c.make_write.new.out) c.len-before.ensures ∙ c.in-Err.ensures.front);
    },
  ),
)

pub returns-in_default-clause-rests : goal.returns-in_default-clause-rests
returns-in_default-clause-rests g c = λ more free.
    let other : c.in-Err.fault ≢ DiskFault = c.in_default.not-DiskFault in
    let front = c.cut.ensures ∙ ap (λ (k : ℕ). take k c.make_write.new.out) c.len-before.ensures ∙ c.in-Err.ensures.front in
    record {
      server = c.in-Err.ensures.ends.1.state other;
      reads = (c.in-Err.ensures.ends.1.leaves.short other).1;
      few = omega (arith, ap length c.put_reply.ensures, length-append c.cut.new.self (output.Reply c.args.id reply.NoMemory ∷ []), ap length front);
    }

pub returns-in-Ok-clause-ends : goal.returns-in-Ok-clause-ends
returns-in-Ok-clause-ends g c =
    (record c.in-Ok.ensures.ends.0 { short = [] }, c.in-Ok.ensures.ends.1)
