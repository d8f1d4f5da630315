use Rattle.std.proofs.Common.{◌≡◌, ◌∙◌, ap, take, ◌++◌, drop, length, ℕ, sym, rules, arith}
use Rattle.std.proofs.Math.Seq.{take-append_seam}
use Rattle.node_sessions.proofs.Appended.{appends, put_nothing, read_done}
use Rattle.node_sessions.proofs.appending.append.Goals as goal

pub returns-clause-meant : goal.returns-clause-meant
returns-clause-meant g c =
    let done = read_done c.read.result c.done.result (search rules) c.done.ensures.fault c.done.ensures.no_memory in
    let buf = c.read.new.buf in
    let rest = drop (length buf) c.in-Ok.answer.items in
    let count : length c.deref_mut.result.now ≡ c.args.d.now.len = c.deref_mut.ensures.len ∙ c.in-Ok.ensures.len ∙ c.len-len.ensures.size in
    let whole : c.in-Ok.answer.len ≡ length buf = sym (c.read.auto.buf ∙ c.deref_mut.ensures.len) in
    let answer : take c.in-Ok.answer.len (buf ++ rest) ≡ buf = ap (λ (n : ℕ). take n (buf ++ rest)) whole ∙ take-append_seam buf rest in
    appends c.args.d.now.bytes c.read.new.self.bytes c.put.new.self.bytes c.args.d.now.len _ c.len-len.result c.args.call.now c.new.result
    c.requires.call (omega (arith, c.if-len-gt1048576.false, c.len-len.ensures.size)) c.len-len.ensures.told
    (rw (c.new.ensures ∙ answer) (c.read.ensures.bytes done)) count c.read.ensures.same.bytes c.in_ok-put.ensures.bytes c.len-len.ensures.size

pub returns-clause-rests : goal.returns-clause-rests
returns-clause-rests g c = λ none. record {
  bytes = put_nothing c.args.d.now.bytes c.read.new.self.bytes c.put.new.self.bytes c.args.d.now.len c.len-len.result c.args.call.now none
      c.len-len.ensures.told c.len-len.ensures.size c.read.ensures.same.bytes c.in_ok-put.ensures.bytes;
  len = omega (arith, c.in_ok-put.ensures.len, c.read.ensures.same.len, c.len-len.ensures.size, none);
  layout = c.put.ensures.layout ∙ c.read.ensures.same.layout;
}
