-- What is said where a disk tells its files, and where a call went well.
use Rattle.std.proofs.Common.{◌≡◌, Option, Some, None, IfSome, refl, sym, ap, subst, ◌∙◌}
use Rattle.std.specs.Result.{is_err}
use Rattle.std.proofs.lemmas.Bool.{false≢true}
use Rattle.std.specs.Prelude.{Result, Ok, Err, IfOk, OnOk, IfErr, IsErr, IsErrOf}
use Rattle.std.specs.Option.{option_map}
use Rattle.disk_base.specs.Crash.{IsSettled}
use Rattle.disk_base.specs.Files.{Files}

-- of a disk that tells its files
pub told : (files : Option Files) (P : Files → Type 0) → ((fs : Files) → files ≡ Some fs → P fs) → IfSome files P
told None P says = tt
told (Some fs) P says = says fs refl

-- what is said of the files of a disk is so of these
pub of_told : (files : Option Files) (fs : Files) (P : Files → Type 0) → files ≡ Some fs → IfSome files P → P fs
of_told files fs P is says = subst (λ (o : Option Files). IfSome o P) is says

-- a call that did not fail went well
pub on_ok : {A E : Type 0} (r : Result A E) (P : Type 0) → (¬ IsErr r → P) → OnOk r P
on_ok (Ok x) P so = so false≢true
on_ok (Err e) P so = tt

-- what is said of one that went well
pub of_ok : {A E : Type 0} (r : Result A E) {P : Type 0} → ¬ IsErr r → OnOk r P → P
of_ok (Ok x) went so = so
of_ok (Err e) went so = absurd (went refl)

-- what does not speak of the files
pub of_some : (files : Option Files) (fs : Files) (P : Type 0) → files ≡ Some fs → IfSome files (λ _. P) → P
of_some files fs P is says = subst (λ (o : Option Files). IfSome o (λ _. P)) is says

pub ok_map : {A E : Type 0} (r : Result A E) (P Q : Type 0) → OnOk r P → (P → Q) → OnOk r Q
ok_map (Ok x) P Q so also = also so
ok_map (Err e) P Q so also = tt

pub if_ok_map : {A E : Type 0} (r : Result A E) {P Q : A → Type 0} → IfOk r P → ((x : A) → P x → Q x) → IfOk r Q
if_ok_map (Ok x) so also = also x so
if_ok_map (Err e) so also = tt

pub ok_both : {A E : Type 0} (r : Result A E) (P Q R : Type 0) → OnOk r P → OnOk r Q → (P → Q → R) → OnOk r R
ok_both (Ok x) P Q R p q also = also p q
ok_both (Err e) P Q R p q also = tt

-- a call that fails for one reason alone
pub err_of : {A E : Type 0} (r : Result A E) (e : E) → IfErr r (λ f. f ≡ e) → IsErr r → IsErrOf r e
err_of (Ok x) e only failed = absurd (false≢true failed)
err_of (Err f) e only failed = ap Err only

pub err_any : {A E : Type 0} (r : Result A E) (e : E) → IsErrOf r e → IsErr r
err_any r e failed = ap is_err failed

-- what is said of the one error that it may end with
pub if_err : {A E : Type 0} (r : Result A E) (e : E) (P : E → Type 0) → IfErr r (λ f. f ≡ e) → P e → IfErr r P
if_err (Ok x) e P only here = tt
if_err (Err f) e P only here = subst P (sym only) here

err_is : {A E : Type 0} (r : Result A E) (f : E) → IsErr r → IfErr r (λ x. x ≡ f) → r ≡ Err f
err_is (Ok x) f some only = absurd (false≢true some)
err_is (Err x) f some only = ap Err only

err_same : {A B E : Type 0} (r : Result A E) (s : Result B E) (f e : E) → r ≡ Err f → s ≡ Err f → IsErrOf s e → IsErrOf r e
err_same r s f e a b is = let same : f ≡ e = cc in a ∙ ap Err same

-- an error that is handed on as it is
pub err_on : {A B E : Type 0} (r : Result A E) (s : Result B E) (f e : E) → s ≡ Err f → IsErr r → IfErr r (λ x. x ≡ f) → IsErrOf s e
    → IsErrOf r e
err_on r s f e was some only is = err_same r s f e (err_is r f some only) was is

pub err_back : {A B E : Type 0} (r : Result A E) (s : Result B E) (f e : E) → s ≡ Err f → IsErr r → IfErr r (λ x. x ≡ f) → IsErrOf r e
    → IsErrOf s e
err_back r s f e was some only is = err_same s r f e was (err_is r f some only) is

-- nothing is said of a disk that does not tell its files
pub settled_told : (change : Files → Files) (old new : Option Files) (now : Files → Type 0) → new ≡ option_map change old
    → ((fs : Files) → old ≡ Some fs → IsSettled new now) → IsSettled new now
settled_told change None new now is says = let P : Option Files → Type 0 = λ o. IsSettled o now in subst P (sym is) tt
settled_told change (Some fs) new now is says = says fs refl
