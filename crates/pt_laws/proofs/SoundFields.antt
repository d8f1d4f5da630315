-- Maxima and fields that are set can be set.
use Rattle.std.proofs.Common.{◌≡◌, ℕ, ℤ, ◌<◌, ◌^◌, Bool, true, false, cond, Some, refl, ap, ◌∙◌}
use Rattle.std.specs.Prelude.{FitsSigned}
use Rattle.std.specs.Int.{w32}
use Rattle.prdb_layout.specs.Registry.{AreMaxima, IsRecord, IsRegistry}
use Rattle.prdb_layout.specs.State.{PrEntry}
use Rattle.pt_calls.specs.declared.answers.PtAnswer.TheVariants as answer
use Rattle.pt_service.specs.Meaning.{Makes, Refit, Refuses, are_bad_fields, fields_set, is_maximum, maxima_with, maximum_set, names_flags, names_quota, of_entry, with_fields}
use Rattle.pt_service.specs.Refusals as rule
use Rattle.pt_service.specs.State.{State}
use Rattle.pt_service.proofs.Refitted.{are_maxima, may_refit}
use Rattle.pt_laws.proofs.Possible.{CanMake, CanRefit, IsSound, either, of_one}

-- ---- maxima

maxima_can : (s : State) (id : ℤ) (group : Bool) → AreMaxima s.registry.max_user s.registry.max_group → FitsSigned w32 id
    → is_maximum group id ≡ true
    → CanMake s (maxima_with s.registry group id)
maxima_can s id true maxima fits is =
    are_maxima id s.registry.max_user s.registry.max_group true maxima fits is (s.registry.max_user, id) refl
maxima_can s id false maxima fits is =
    are_maxima id s.registry.max_user s.registry.max_group false maxima fits is (id, s.registry.max_group) refl

pub maximum_sound : (s : State) (id : ℤ) (group : Bool) → IsRegistry s.registry → FitsSigned w32 id
    → IsSound s (maximum_set s.registry id group)
maximum_sound s id group valid fits =
    either (IsSound s) (is_maximum group id) (Makes answer.Done (maxima_with s.registry group id)) (Refuses rule.bad_argument)
    (λ is. maxima_can s id group valid.maxima fits is) (λ is. tt)

-- ---- fields

low_by : (b : Bool) (x y : ℕ) → x < 2 ^ 32 → y < 2 ^ 32 → cond b x y < 2 ^ 32
low_by true x y h k = h
low_by false x y h k = k

fits_by : (b : Bool) (x y : ℤ) → FitsSigned w32 x → FitsSigned w32 y → FitsSigned w32 (cond b x y)
fits_by true x y h k = h
fits_by false x y h k = k

refit_can : (s : State) (id : ℤ) (mask flags : ℕ) (quota : ℤ) (e : PrEntry) → IsRegistry s.registry → flags < 2 ^ 32 → FitsSigned w32 quota
    → s.registry.entry id ≡ Some e
    → CanRefit s (with_fields mask flags quota e)
refit_can s id mask flags quota e valid low fits at =
    let new = with_fields mask flags quota e in
    let was : IsRecord e = valid.records id e at in
    let own : s.registry.entry e.id ≡ Some e = ap s.registry.entry (valid.ids id e at) ∙ at in
    record {
      good = record {
        fields = record {
          name_bytes = was.fields.name_bytes;
          name_len = was.fields.name_len;
          name_text = was.fields.name_text;
          flags = low_by (names_flags mask) flags e.flags low was.fields.flags;
          id = was.fields.id;
          owner = was.fields.owner;
          creator = was.fields.creator;
          quota = fits_by (names_quota mask) quota e.quota fits was.fields.quota;
        };
        name = was.name;
      };
      may = may_refit s.registry new e valid own refl (valid.among id e at) refl refl;
    }

pub fields_sound : (s : State) (id : ℤ) (mask flags : ℕ) (quota : ℤ) → IsRegistry s.registry → flags < 2 ^ 32 → FitsSigned w32 quota
    → IsSound s (of_entry (s.registry.entry id) (fields_set mask flags quota))
fields_sound s id mask flags quota valid low fits =
    of_one (IsSound s) (s.registry.entry id) (fields_set mask flags quota) (λ rule. tt)
    (λ e at. either (IsSound s) (are_bad_fields mask flags quota) (Refuses rule.bad_argument)
    (Makes answer.Done (Refit (with_fields mask flags quota e))) (λ is. tt)
    (λ is. refit_can s id mask flags quota e valid low fits at))
