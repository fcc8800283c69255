-- What marks have, by tests.
use Rattle.std.specs.Prelude.{Bool, ◌&&◌}
use Rattle.role_order.specs.Roles.{is_within}
use Rattle.need_marks.specs.declared.marks.UserMark.{UserMark}

-- whether the other has all that the mark has
abbrev pub is_part : UserMark → UserMark → Bool
is_part mark other = is_within mark.aims other.aims && is_within mark.lacks other.lacks
