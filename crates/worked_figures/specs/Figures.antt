-- Figures worked by hand.
use Rattle.std.specs.Prelude.{[], ◌∷◌, map, ◌≡◌, pos, replicate}
use Rattle.estimates.specs.Factors.{weather_figure}
use Rattle.estimates.specs.Usage.{hot_water_figure}
use Rattle.allocation.specs.Loads.{adjusted, net_load, weight}
use Rattle.allocation.specs.Sharing.{shares}
use Rattle.estimates.specs.Observations.{degree_days}

pub record WorkedFigures : Type 0 where
  -- 5,000 MJ in, 200 out, 900 through interval meters, a tenth unaccounted for
  pub load : net_load 5000 200 (adjusted 900 1000) ≡ 3800
  -- two and a half MJ are rounded up
  pub halves_up : adjusted 2 2000 ≡ 3
  -- 1,000 MJ over days with loads 100, 0 and 200
  pub spread : shares 1000 (map weight (100 ∷ 0 ∷ 200 ∷ [])) ≡ 332 ∷ 3 ∷ 665 ∷ []
  -- 1 MJ over the same days
  pub one : shares 1 (map weight (100 ∷ 0 ∷ 200 ∷ [])) ≡ 0 ∷ 0 ∷ 1 ∷ []
  -- estimates of 20, 20 and 10 MJ scaled to the 31 MJ that a load of 101 leaves beside 70 supplied
  pub scaled : shares (net_load 101 70 0) (20 ∷ 20 ∷ 10 ∷ []) ≡ 12 ∷ 12 ∷ 7 ∷ []
  -- eight times 10.0 °C, sixteen winds of 10 knots, 5.0 hours of sunshine, day 200 of the year
  pub degree_day_count :
      degree_days (record { temperatures = replicate 8 (pos 100); winds = replicate 16 10; sunshine = 50 }) 200 ≡ 1094
  -- a base load of 12,500 kJ a day and 3,000 kJ a degree day under that count
  pub by_weather : weather_figure (record { base_load = 12500; sensitivity = 3000 }) 1094 ≡ 45
  -- 9,000 litres over 90 days at 400 kJ a litre, last read in September, on a day in January
  pub hot_water : hot_water_figure (record { litres = 9000; days = 90; read_in = 9; heat = 400 }) 1 ≡ 20
