pub mod RoofItems
