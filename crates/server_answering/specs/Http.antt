-- Lines of HTTP.
use Rattle.std.specs.Prelude.{Bool, ◌||◌, nat_eq, codes}
use Rattle.std.specs.List.{ends_with, starts_with}
use Rattle.model.specs.Stream.{Octets}

-- the first line of a request, or its field `Host`
abbrev pub is_http_line : Octets → Bool
is_http_line line =
    ends_with nat_eq line (codes " HTTP/1.1") || ends_with nat_eq line (codes " HTTP/1.0") || starts_with nat_eq line (codes "Host:")
