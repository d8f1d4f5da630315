use Rattle.std.proofs.Common.{◌≤◌, ℕ, length, drop, subst, sym, rules, arith, length-drop}
use Rattle.ubik_types.specs.declared.limits.TheConstants.{MAX_IMAGE}
use Rattle.ubik_store.specs.Rewrite.Rewrite.{Replaced}
use Rattle.ubik_store.specs.Store.{IsImageForbidden, IsTooLong}
use Rattle.ubik_store.proofs.Ended.{EndsFiles, sound_taken, durable_itself, durable_taken, ended_taken, handed_on, image_not_at_disk, image_refused, image_there, on_ok}
use Rattle.ubik_store.proofs.stores.Store.install_labelled.Goals as goal

pub returns-in_err-allow_image-clause-ended : goal.returns-in_err-allow_image-clause-ended
returns-in_err-allow_image-clause-ended g c =
    let image = drop 64 c.args.file.now in
    let fault = c.in_err-allow_image.field-0.0 in
    let forbidden : IsImageForbidden c.args.self.now (length image) c.args.v fault =
    subst (λ (long : ℕ). IsImageForbidden c.args.self.now long c.args.v fault) (sym (length-drop 64 c.args.file.now)) c.in_err-allow_image.ensures.fault in
    image_refused g.D.Disk image c.args.v c.args.self.now c.from_residual.result fault c.from_residual.ensures.1 forbidden

pub returns-in_err-allow_image-clause-durable : goal.returns-in_err-allow_image-clause-durable
returns-in_err-allow_image-clause-durable g c = λ went.
    let image = drop 64 c.args.file.now in
    let fault = c.in_err-allow_image.field-0.0 in
    let forbidden : IsImageForbidden c.args.self.now (length image) c.args.v fault =
    subst (λ (long : ℕ). IsImageForbidden c.args.self.now long c.args.v fault) (sym (length-drop 64 c.args.file.now)) c.in_err-allow_image.ensures.fault in
    durable_itself g.D.Disk (Replaced image) c.args.v c.args.self.now _ (c.requires.sound.ready went)
    (λ failed. image_not_at_disk g.D.Disk image c.args.v c.args.self.now fault went forbidden (search rules))

pub returns-clause-sound : goal.returns-clause-sound
returns-clause-sound g c =
    let s = c.args.self.now in
    let image = drop 64 c.args.file.now in
    let fits : length image ≤ MAX_IMAGE = omega (arith, length-drop 64 c.args.file.now, c.in_ok-allow_image.ensures.ok.2) in
    let made = c.install_files-ended in
    let is : EndsFiles g.D.Disk (Replaced image) c.args.v s made.new.disk made.new.pages made.result =
    record { done = made.ensures.done; durable = made.ensures.durable; fault = made.ensures.fault; unchanged = made.ensures.unchanged } in
    sound_taken g.D.Disk (Replaced image) c.args.v s made.new.disk made.new.pages made.result c.end.new.self c.end.ensures.store
    c.requires.sound c.in_ok-allow_image.ensures.ok.0 c.requires.version fits is

pub returns-clause-ended : goal.returns-clause-ended
returns-clause-ended g c =
    let s = c.args.self.now in
    let image = drop 64 c.args.file.now in
    let fits : length image ≤ MAX_IMAGE = omega (arith, length-drop 64 c.args.file.now, c.in_ok-allow_image.ensures.ok.2) in
    let made = c.install_files-ended in
    let is : EndsFiles g.D.Disk (Replaced image) c.args.v s made.new.disk made.new.pages made.result =
    record { done = made.ensures.done; durable = made.ensures.durable; fault = made.ensures.fault; unchanged = made.ensures.unchanged } in
    ended_taken g.D.Disk (Replaced image) c.args.v s made.new.disk made.new.pages c.requires.sound c.in_ok-allow_image.ensures.ok.0
    c.in_ok-allow_image.ensures.ok.1 fits (IsTooLong image) made.result c.end.result c.end.new.self c.end.ensures.store c.end.ensures.same is

pub returns-clause-durable : goal.returns-clause-durable
returns-clause-durable g c = λ went.
    let made = c.install_files-ended in
    durable_taken g.D.Disk
    (Replaced (drop 64 c.args.file.now)) c.args.v c.args.self.now made.new.disk made.new.pages made.result c.end.result c.end.new.self
    c.end.ensures.store c.end.ensures.same
    c.requires.sound went c.in_ok-allow_image.ensures.ok.1 made.ensures.durable

pub returns-in_err-allow_image-clause-too_long : goal.returns-in_err-allow_image-clause-too_long
returns-in_err-allow_image-clause-too_long g c = λ went long.
    let cut = length-drop 64 c.args.file.now in
    rw cut
    (handed_on c.from_residual.result c.in_err-allow_image.field-0.0 _ c.from_residual.ensures.1
    (c.in_err-allow_image.ensures.too_long went (omega (arith, cut, long))))

pub returns-clause-fits : goal.returns-clause-fits
returns-clause-fits g c = on_ok c.end.result (omega (arith, length-drop 64 c.args.file.now, c.in_ok-allow_image.ensures.ok.2))

pub returns-clause-too_long : goal.returns-clause-too_long
returns-clause-too_long g c = λ went long. absurd (omega (arith, length-drop 64 c.args.file.now, c.in_ok-allow_image.ensures.ok.2, long))

pub returns-clause-image : goal.returns-clause-image
returns-clause-image g c =
    image_there g.D.Disk (drop 64 c.args.file.now) c.args.v c.args.self.now c.end.new.self c.end.result _ (returns-clause-ended g c)
