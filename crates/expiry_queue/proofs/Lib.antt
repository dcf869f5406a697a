mod RowReadings
