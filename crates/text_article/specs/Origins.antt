-- The origins of the definitions.
use Rattle.std.specs.Prelude.{◌^◌, ◌<◌, Bool, true}
use Rattle.model.specs.Names.{is_host}
use Rattle.model.specs.Article.{Origin, Posted, Carried}
use Rattle.text_article.specs.declared.origin.Origin.{Origin as Given}
use Rattle.text_article.specs.declared.origin.Origin.TheVariants as given

-- the origin, without the host's place in memory
abbrev pub origin_of : Given → Origin
origin_of (given.Posted host serial) = Posted host.now serial
origin_of given.Carried = Carried

-- whether the host of an origin is valid
abbrev pub names_host : Origin → Bool
names_host (Posted host serial) = is_host host
names_host Carried = true

-- the serial of an origin fits into 64 bits
abbrev pub HasSmallSerial : Origin → Type 0
HasSmallSerial (Posted host serial) = serial < 2 ^ 64
HasSmallSerial Carried = Unit {0}
