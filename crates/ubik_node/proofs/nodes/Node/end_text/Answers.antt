use Rattle.std.proofs.Common.{Err, ◌≡◌, ◌≤◌, ◌∙◌, ℕ, List, length, take, IsSome, Some, refl, sym, ap, subst, arith, length-append, length-take}
use Rattle.ubik_types.specs.declared.limits.TheConstants.{MAX_IMAGE}
use Rattle.ubik_types.specs.declared.versions.Version.{Version}
use Rattle.ubik_recovery.specs.Record.{RecoveryRecord}
use Rattle.ubik_recovery.specs.Text.{received_bytes, with_piece}
use Rattle.cell_model.specs.Durable.{durable}
use Rattle.cell_model.specs.Node.{halted_from}
use Rattle.server_state.specs.Receiving.{received_in}
use Rattle.server_state.specs.State.{member_of, server_of}
use Rattle.ubik_node.specs.Node.{durable_in, held}
use Rattle.ubik_node.proofs.Alike.{alike_same}
use Rattle.ubik_node.proofs.Ended.{ended_with, follow_after, may_after}
use Rattle.ubik_node.proofs.Endings.{handed_ends, same_ends}
use Rattle.ubik_node.proofs.Fronts.{failed_from, made_from, short_back, text_kept, text_restored}
use Rattle.ubik_node.proofs.nodes.Node.end_text.Goals as goal

pub returns-in_err-before-clause-ends : goal.returns-in_err-before-clause-ends
returns-in_err-before-clause-ends g c =
    let same = c.in_err-before.ensures.err in
    handed_ends g.D.Disk c.from_residual.result _ c.from_residual.ensures.1
    (short_back g.D.Disk (held c.args.self.now) (server_of c.put_piece.new.self) (member_of c.put_piece.new.self) c.args.self.now.stored
    c.requires.not_halted (ap server_of same) (ap member_of same))

pub returns-in-Ok-clause-ends : goal.returns-in-Ok-clause-ends
returns-in-Ok-clause-ends g c =
    let st = c.args.self.now.state in
    let mid = c.put_piece.new.self in
    let kept = c.put_piece.ensures.kept in
    let whole = with_piece c.args.source c.args.offset c.args.bytes.now st.recovery.text in
    let same : durable_in (server_of mid) ≡ durable_in (server_of st) = ap (λ (v : Version). durable v mid.image) kept.version ∙ ap (durable st.version) kept.image in
    made_from g.D.Disk (held c.args.self.now) (server_of mid) (member_of mid) same kept.member (held c.text_ended.new.self)
    (same_ends g.D.Disk
    (ended_with st (Some whole) (server_of mid) (member_of mid) c.args.end c.args.source.version whole.bytes (received_in mid)
    c.in_ok-before.ensures.after kept.member (ap (λ (r : RecoveryRecord). received_bytes r.text) c.in_ok-before.ensures.recovery)) c.in-Ok.ensures.ends)

pub returns-in-Err-clause-ends : goal.returns-in-Err-clause-ends
returns-in-Err-clause-ends g c =
    let n = c.args.self.now in
    let st = n.state in
    let mid = c.put_piece.new.self in
    let late = c.text_ended.new.self.state in
    let last = c.take_back.new.self in
    let kept = c.put_piece.ensures.kept in
    let put = c.in_ok-before.ensures in
    let ends = c.in-Err.ensures.ends in
    let whole = with_piece c.args.source c.args.offset c.args.bytes.now st.recovery.text in
    let same : durable_in (server_of mid) ≡ durable_in (server_of st) = ap (λ (v : Version). durable v mid.image) kept.version ∙ ap (durable st.version) kept.image in
    failed_from g.D.Disk (held n) (server_of mid) (member_of mid) same kept.member (held c.text_ended.new.self) (server_of last) (member_of last) c.in-Err.fault
    (λ other. c.take_back.ensures.after ∙ text_restored st late whole c.in_ok-before.before (ends.state other ∙ put.after) put.before)
    (λ is. ap halted_from c.take_back.ensures.after ∙ text_kept late _ ∙ ends.keeps (ap Err is) ∙ ap halted_from put.after ∙ text_kept st (Some whole))
    (c.take_back.ensures.kept.member ∙ ends.member ∙ kept.member)
    (same_ends g.D.Disk
    (ended_with st (Some whole) (server_of mid) (member_of mid) c.args.end c.args.source.version whole.bytes (received_in mid)
    put.after kept.member (ap (λ (r : RecoveryRecord). received_bytes r.text) put.recovery)) ends)

pub returns-in-Ok-clause-alike : goal.returns-in-Ok-clause-alike
returns-in-Ok-clause-alike g c =
    let st = c.args.self.now.state in
    let mid = c.put_piece.new.self in
    let whole = with_piece c.args.source c.args.offset c.args.bytes.now st.recovery.text in
    alike_same
    (ended_with st (Some whole) (server_of mid) (member_of mid) c.args.end c.args.source.version whole.bytes (received_in mid)
    c.in_ok-before.ensures.after c.put_piece.ensures.kept.member
    (ap (λ (r : RecoveryRecord). received_bytes r.text) c.in_ok-before.ensures.recovery)) c.in-Ok.ensures.alike

pub text_ended-requires-clause-may : goal.text_ended-requires-clause-may
text_ended-requires-clause-may g c =
    may_after c.args.self.now.state c.put_piece.new.self _ c.args.source.version c.in_ok-before.ensures.recovery
    c.put_piece.ensures.kept.version c.requires.may

pub text_ended-requires-clause-follow : goal.text_ended-requires-clause-follow
text_ended-requires-clause-follow g c =
    follow_after c.args.self.now.state c.put_piece.new.self c.args.source.version c.args.end c.put_piece.ensures.kept.member c.requires.follow

pub text_ended-requires-clause-text : goal.text_ended-requires-clause-text
text_ended-requires-clause-text g c = subst (λ (r : RecoveryRecord). IsSome r.text) (sym c.in_ok-before.ensures.recovery) refl

pub text_ended-requires-clause-fits : goal.text_ended-requires-clause-fits
text_ended-requires-clause-fits g c =
    let xs = received_bytes c.args.self.now.state.recovery.text in
    let at = c.args.offset in
    let bytes = c.args.bytes.now in
    let ends = c.requires.ends in
    subst (λ (r : RecoveryRecord). length (received_bytes r.text) ≤ MAX_IMAGE) (sym c.in_ok-before.ensures.recovery)
    (omega (arith, length-append (take at xs) bytes, length-take at xs, ends.whole, ends.fits))
