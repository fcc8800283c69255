-- An injective map counts: what its end has of a kind is as much or more.
use Rattle.std.proofs.Common.{List}
use Rattle.list_words.specs.Lists.{Each}
use Rattle.list_words.specs.Embeds.{Embeds}
use Rattle.list_words.proofs.EachLemmas.{each_at}

-- the related items, with what holds of each item of the two lists
pub embeds_with : {A B : Type 0} (R : A → B → Type 0) (P : A → Type 0) (Q : B → Type 0) (xs : List A) (ys : List B) → Each P xs → Each Q ys
    → Embeds R xs ys
    → Embeds (λ x y. P x × Q y × R x y) xs ys
embeds_with R P Q xs ys p q f = record {
  to = f.to;
  apart = f.apart;
  each = λ i x is. let one = f.each i x is in (one.0, one.1, (each_at P xs i x p is, each_at Q ys (f.to i) one.0 q one.1, one.2));
}
