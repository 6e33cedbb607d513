-- What the lines of an article have in common in the overviews of all its groups.
use Rattle.std.specs.Prelude.{◌++◌, ◌==◌, List, codes, decimal, if◌then◌else◌, length, map}
use Rattle.model.specs.Stream.{Octets}
use Rattle.model.specs.Article.{body_lines, fields}
use Rattle.text_article.specs.Causes.{content_in}

-- a field of a header as the overview shows it
abbrev pub shown_field : Octets → List Octets → Octets
shown_field name header = map (λ octet. if octet == 9 then 32 else octet) (content_in name header)

-- the fields of a header that the overview shows, each after a TAB
abbrev pub shown_fields : List Octets → Octets
shown_fields header =
    codes "\t" ++ shown_field (codes "Subject") header ++ codes "\t" ++ shown_field (codes "From") header
    ++ codes "\t" ++ shown_field (codes "Date") header ++ codes "\t" ++ shown_field (codes "Message-ID") header
    ++ codes "\t" ++ shown_field (codes "References") header

-- the line after its number
abbrev pub overview_rest : Octets → Octets
overview_rest text =
    shown_fields (fields text)
    ++ codes "\t" ++ decimal (length text) ++ codes "\t" ++ decimal (length (body_lines text))
