use Rattle.std.proofs.Common.{◌≡◌, List, None, Some, subst, rules}
use Rattle.ubik_types.specs.declared.images.Change.{Change}
use Rattle.ubik_types.specs.Logged.{logged, too_large}
use Rattle.ubik_store.specs.Rewrite.Rewrite.{Changed}
use Rattle.ubik_store.proofs.Ended.{EndsFiles, sound_taken, durable_itself, durable_taken, ended_taken, not_forbidden, not_too_large}
use Rattle.ubik_store.proofs.Measured.{fitting_len}
use Rattle.ubik_store.proofs.stores.Store.commit_all.Goals as goal

pub returns-in_err-allow-clause-durable : goal.returns-in_err-allow-clause-durable
returns-in_err-allow-clause-durable g c = λ went.
    durable_itself g.D.Disk (Changed (logged c.args.self.now.len c.args.changes.now)) c.args.v c.args.self.now _
    (c.requires.sound.ready went)
    (λ failed. not_forbidden c.args.self.now c.args.v c.in_err-allow.field-0.0 went c.in_err-allow.ensures.fault (search rules))

pub returns-in_err-seamless-clause-durable : goal.returns-in_err-seamless-clause-durable
returns-in_err-seamless-clause-durable g c = λ went.
    durable_itself g.D.Disk (Changed (logged c.args.self.now.len c.args.changes.now)) c.args.v c.args.self.now _
    (c.requires.sound.ready went)
    (λ failed. not_too_large 0 c.args.self.now.len c.as_slice.result.now c.in_err-seamless.field-0.0 c.in_err-seamless.ensures.fault
    (search rules))

pub returns-clause-ended : goal.returns-clause-ended
returns-clause-ended g c =
    let s = c.args.self.now in
    let rewrite = Changed (logged s.len c.args.changes.now) in
    let made = c.commit_as_made-ended in
    let fits : too_large 0 s.len c.args.changes.now ≡ None =
    subst (λ (cs : List Change). too_large 0 s.len cs ≡ None) c.as_slice.ensures c.in_ok-seamless.ensures.fits in
    let is : EndsFiles g.D.Disk rewrite c.args.v s made.new.disk made.new.pages made.result =
    record { done = made.ensures.done; durable = made.ensures.durable; fault = made.ensures.fault; unchanged = made.ensures.unchanged } in
    ended_taken g.D.Disk rewrite c.args.v s made.new.disk made.new.pages c.requires.sound c.in_ok-allow.ensures.ok.0
    c.in_ok-allow.ensures.ok.1 (fitting_len c.args.changes.now 0 s.len c.requires.sound.len fits)
    (λ bytes. too_large 0 s.len c.args.changes.now ≡ Some bytes)
    made.result c.end.result c.end.new.self c.end.ensures.store c.end.ensures.same is

pub returns-clause-sound : goal.returns-clause-sound
returns-clause-sound g c =
    let s = c.args.self.now in
    let rewrite = Changed (logged s.len c.args.changes.now) in
    let made = c.commit_as_made-ended in
    let fits : too_large 0 s.len c.args.changes.now ≡ None =
    subst (λ (cs : List Change). too_large 0 s.len cs ≡ None) c.as_slice.ensures c.in_ok-seamless.ensures.fits in
    let is : EndsFiles g.D.Disk rewrite c.args.v s made.new.disk made.new.pages made.result =
    record { done = made.ensures.done; durable = made.ensures.durable; fault = made.ensures.fault; unchanged = made.ensures.unchanged } in
    sound_taken g.D.Disk rewrite c.args.v s made.new.disk made.new.pages made.result c.end.new.self c.end.ensures.store
    c.requires.sound c.in_ok-allow.ensures.ok.0 c.requires.version
    (fitting_len c.args.changes.now 0 s.len c.requires.sound.len fits) is

pub returns-clause-durable : goal.returns-clause-durable
returns-clause-durable g c = λ went.
    let s = c.args.self.now in
    let made = c.commit_as_made-ended in
    durable_taken g.D.Disk (Changed (logged s.len c.args.changes.now)) c.args.v s made.new.disk made.new.pages made.result
    c.end.result c.end.new.self c.end.ensures.store c.end.ensures.same c.requires.sound went c.in_ok-allow.ensures.ok.1
    made.ensures.durable
