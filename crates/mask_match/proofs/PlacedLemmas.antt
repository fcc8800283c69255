-- Rows of bits that say which items of two lists go together.
use Rattle.std.proofs.Common.{ℕ, ◌≡◌, ◌<◌, ◌≤◌, List, length, get_or, arith, sym, ◌∙◌, subst}
use Rattle.std.specs.Prelude.{◌↔◌}
use Rattle.list_words.specs.Embeds.{Embeds}
use Rattle.list_words.proofs.GetLemmas.{get_below}
use Rattle.list_words.proofs.PlaceLemmas.{from_places, to_places}
use Rattle.hall_match.specs.Joined.{IsTransversal, JoinsAt}
use Rattle.hall_match.proofs.JoinedLemmas.{transversal_places, places_transversal}
use Rattle.mask_match.specs.Rows.{HasBitAt, ArePlaced}
use Rattle.mask_match.specs.declared.TheConstants.{MOST_PLACES}

-- where rows say which items of the second list each of the first goes with, the rows can be placed just where the first list embeds
pub placed_embeds : {A B : Type 0} (R : A → B → Type 0) (xs : List A) (ys : List B) (rows : List ℕ) → length rows ≡ length xs
    → length ys ≤ MOST_PLACES → ((i j : ℕ) → HasBitAt rows i j ↔ JoinsAt R xs ys i j) → ArePlaced rows ↔ Embeds R xs ys
placed_embeds {A} {B} R xs ys rows same few exact = (λ t. to t.0 t.1, from)
  where
    to : (list : List ℕ) → IsTransversal (HasBitAt rows) (length rows) MOST_PLACES list → Embeds R xs ys
    to list t = from_places R xs ys list (transversal_places R xs ys list (record {
      long = t.long ∙ same;
      apart = t.apart;
      each = λ i l.
          let one = t.each i (subst (λ n. i < n) (sym same) l) in
          let joins = (exact i (get_or list i 0)).0 one.1 in
          (get_below ys (get_or list i 0) joins.1 joins.3, joins);
    }))

    from : Embeds R xs ys → ArePlaced rows
    from f =
        let places = to_places R xs ys f in
        let t = places_transversal R xs ys places.0 places.1 in (
          places.0,
          record {
            long = t.long ∙ sym same;
            apart = t.apart;
            each = λ i l.
                let one = t.each i (subst (λ n. i < n) same l) in
                let within = one.0 in
                (omega (arith, within, few), (exact i (get_or places.0 i 0)).1 one.1);
          },
        )
