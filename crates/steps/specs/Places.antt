-- Lists by their places, as `integers` defines them.
unfoldable pub use Rattle.integers.specs.Places.{tab, sum}
pub use Rattle.integers.specs.Places.{places, at, Within}
