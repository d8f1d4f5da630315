use Rattle.std.proofs.Common.{refl, map, string_bytes, arith}
use Rattle.std.proofs.lemmas.Result.{err_from_is_err_and}
use Rattle.afs_words.specs.Meaning.{read_switches}
use Rattle.afs_words.proofs.Giving.{parts, read_fault, read_well}
use Rattle.afs_words.proofs.switches.Switches.read.Goals as goal

pub returns-in_err-give : goal.returns-in_err-give
returns-in_err-give c =
    let p = err_from_is_err_and c.from_residual.result c.from_residual.ensures.1 in
    rw (p.1, p.2) (read_fault string_bytes (read_switches c.args.self (map string_bytes c.args.words.now)) c.loop-rest.switches
    c.loop-rest.rest.now _ c.word-item.result c.as_str.result.now (map string_bytes c.front.result.now) c.in_err-give.field-0.0
    (parts c.loop-rest.rest.now _ c.word-item.result (omega arith) c.word-item.is refl)
    (cc) c.as_str.ensures.value c.front.ensures c.loop-rest.invariant c.in_err-give.ensures)

pub loop-rest-preserved-in_ok-give : goal.loop-rest-preserved-in_ok-give
loop-rest-preserved-in_ok-give c =
    read_well string_bytes (read_switches c.args.self (map string_bytes c.args.words.now)) c.loop-rest.switches c.give.new.self
    c.loop-rest.rest.now _ c.word-item.result c.as_str.result.now (map string_bytes c.front.result.now)
    (parts c.loop-rest.rest.now _ c.word-item.result (omega arith) c.word-item.is refl)
    (cc) c.as_str.ensures.value c.front.ensures c.loop-rest.invariant c.in_ok-give.ensures
