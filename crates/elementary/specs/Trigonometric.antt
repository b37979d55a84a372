-- Passed on from `trigonometric`.
unfoldable pub use Rattle.trigonometric.specs.Trigonometric.{in_range, turns_argument, turns, rest, reduced, sine_part, cosine_part, sine_at, cosine_at, sine, cosine, tangent}
pub use Rattle.trigonometric.specs.Trigonometric.{sine_cosine_of, two_over_pi, piece1, piece2, piece3, limit, s1, s2, s3, c1, c2, c3, quadrant_of, by_quadrant}
