use Rattle.arbac_laws.proofs.FormPlaceLemmas.{form_places, one_form_place, sorted_is_form}
use Rattle.arbac_laws.proofs.normal_forms.form_place_laws.Goals as goal

pub returns : goal.returns
returns c = record { some = form_places; one = one_form_place; sorted = sorted_is_form }
