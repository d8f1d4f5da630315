use Rattle.std.proofs.Common.{length, ◌∙◌, ap, sym, arith}
use Rattle.std.specs.Option.{option_map}
use Rattle.std.proofs.lemmas.Result.{err_from_is_err_and}
use Rattle.db_blocks.proofs.Numbers.{number_fits}
use Rattle.db_chains.proofs.Clauses.{bytes_taken_out}
use Rattle.db_chains.proofs.Results.{ok_so, two_puts}
use Rattle.db_chains.proofs.changes.take_at.Goals as goal

pub returns-in_err-next-clause-fault : goal.returns-in_err-next-clause-fault
returns-in_err-next-clause-fault g c =
    let p = err_from_is_err_and c.from_residual.result c.from_residual.ensures.1 in
    rw (p.1, p.2) c.in_err-next.ensures.fault

pub returns-clause-bytes : goal.returns-clause-bytes
returns-clause-bytes g c =
    ok_so c.put-2.result _ _ c.put-2.ensures.bytes
    (bytes_taken_out c.args.d.now.bytes c.put.new.self.bytes c.put-2.new.self.bytes c.args.links c.args.at c.args.word c.in_ok-next.next
    c.next_place-place.result c.to_be_bytes.result c.to_be_bytes-2.result c.requires.stands
    c.in_ok-next.ensures.word c.next_place-place.ensures
    (c.to_be_bytes.ensures ∙ sym (number_fits c.in_ok-next.next (omega arith))) c.to_be_bytes-2.ensures
    (c.in_ok-put.ensures.bytes ∙ ap (option_map _) c.read_word.ensures.frame.looks.same.bytes))

pub returns-clause-frame : goal.returns-clause-frame
returns-clause-frame g c =
    two_puts g.I.ImageRead _ _ c.args.d.now c.read_word.new.d c.put.new.self c.put-2.new.self _ _ _ c.read_word.ensures.frame
    (ap length c.to_be_bytes.ensures) (ap length c.to_be_bytes-2.ensures) c.put.ensures.layout
    c.put.ensures.reads c.put-2.ensures.layout c.put-2.ensures.reads
